-- A line is answered by what it changes, what that prints, and the answer to a send on the map as it then is. Assumes nothing.
use Rattle.std.proofs.Common.{Option, None, Some, ◌≡◌, refl, sym, ap, ◌∙◌, Bool, true, false, List, [], append-nil, ℕ, ◌+◌, ◌≤◌, ◌<◌, arith, length}
use Rattle.mesh.specs.declared.Place.{Place}
use Rattle.mesh.specs.Mesh.{Mesh as MeshOf, mesh}
use Rattle.mesh.specs.Numbers.{number}
use Rattle.mesh.proofs.Bools.{true-false}
use Rattle.buffers.specs.Over.{Puts}
use Rattle.buffers.proofs.Over.{puts-append, over-length}
use Rattle.sheet_words.specs.declared.Command.{Command}
use Rattle.sheet_words.specs.declared.Command.TheVariants.{Mesh, Fault, Send}
use Rattle.sheet_prints.specs.Prints.{line_word, no_word, blocks_word}
use Rattle.sheet_prints.proofs.Lines.{line-length}
use Rattle.theory_sheet.specs.declared.Phase.TheVariants.{Sends}
use Rattle.theory_sheet.specs.Sheet.{opening, change, send_answer, answer_to, answering, command_step, at_end}
use Rattle.theory_sheet.proofs.Opening.{opened-sends}
use Rattle.sheet_state.specs.declared.Sheet.{Sheet}
use Rattle.sheet_state.specs.declared.Says.{Says}
use Rattle.sheet_state.specs.declared.Says.TheVariants.{BadLine, Refusal, Blocks, Nothing}
use Rattle.sheet_state.specs.declared.Change.{Change}
use Rattle.sheet_state.specs.Keeping.{map_of, state_of, MarkMap, says_line, says_ends, says_number, step_of, Changes}
use Rattle.sheet_lines.specs.Answers.{send_room, answer_room, Answers}

says-short : (n : ℕ) (x : Says) → n < 100000 → says_number x < 100000 → length (says_line n x) ≤ 13
says-short n BadLine h k = omega (arith, line-length line_word n h)
says-short n (Refusal why) h k = omega (arith, line-length no_word (number why) k)
says-short n (Blocks j) h k = omega (arith, line-length blocks_word j k)
says-short n Nothing h k = omega arith

-- only a send is answered
no_answer : (w : MeshOf) (c : Option Command) → ((p q : Place) → c ≡ Some (Send p q) → ⊥) → answer_to w c ≡ []
unfolding answer_to
no_answer w (Some (Mesh columns rows)) h = refl
no_answer w (Some (Fault p)) h = refl
no_answer w (Some (Send s d)) h = absurd (h s d refl)
no_answer w None h = refl

-- line n says c, which changes the sheet to x
module _ (n : ℕ) (s : Sheet) (map : List ℕ) (c : Option Command) {x : Change} {map' : List ℕ} (changed : Changes (λ n. change n (state_of s map) c) x map') where
  line-changes : command_step n (state_of s map) c ≡ answering c (step_of n x map')
  unfolding command_step
  line-changes = ap (answering c) (changed.steps n)

  module _ {out : List ℕ} {at y : ℕ} {after : List ℕ} (told : Puts out at (says_line n x.says) y after) {b : Bool} (is_b : b ≡ says_ends x.says) where
    pub ends-here : b ≡ true → Answers (command_step n (state_of s map) c) out at (record { sheet = x.sheet; at = y; ends = true }) map' after
    unfolding answering
    ends-here t =
        rw (line-changes, sym is_b ∙ t)
        (record { puts = told; ends = refl; next = refl; ready = λ f. true-false refl f })

    module _ (f : b ≡ false) where
      pub not-a-send : ((p q : Place) → c ≡ Some (Send p q) → ⊥) → Answers (command_step n (state_of s map) c) out at (record { sheet = x.sheet; at = y; ends = false }) map' after
      unfolding answering
      not-a-send h =
          rw (line-changes, sym is_b ∙ f, no_answer _ c h, append-nil)
          (record { puts = told; ends = refl; next = refl; ready = λ g. changed.ready (sym is_b ∙ f) })

      -- the map is marked, and there is room for the answer
      module _ (p q : Place) (e : c ≡ Some (Send p q)) where
        sends-begun : x.sheet.phase ≡ Sends
        unfolding change
        sends-begun =
            let opened = rw e at (changed.steps n) in
            ap (λ z. z.next.phase) (sym opened) ∙ opened-sends n (state_of s map) (ap (λ z. z.ends) opened ∙ sym is_b ∙ f)

        pub can-answer : n < 100000 → at + answer_room ≤ length out →
            MarkMap x.sheet.columns x.sheet.rows (map_of x.sheet map') × (4096 ≤ length map') × (y + send_room ≤ length after)
        can-answer h fits =
            let ready = changed.ready (sym is_b ∙ f) in
            let size = ap length told.stands ∙ over-length out at (says_line n x.says) in
            (ready.sends sends-begun, ready.room, omega (arith, told.next, says-short n x.says h changed.few))

        pub send-answered : {z : ℕ} {end : List ℕ} → Puts after y (send_answer (mesh x.sheet.columns x.sheet.rows (map_of x.sheet map')) p q) z end →
            Answers (command_step n (state_of s map) c) out at (record { sheet = x.sheet; at = z; ends = false }) map' end
        unfolding answering answer_to
        send-answered answer =
            rw (line-changes, sym is_b ∙ f, e)
            (record { puts = puts-append told answer; ends = refl; next = refl; ready = λ g. changed.ready (sym is_b ∙ f) })

-- the end of a sheet, where its opening is told
pub end-told : (n : ℕ) (s : Sheet) (map : List ℕ) {x : Change} {map' out : List ℕ} {at y : ℕ} {after : List ℕ} → Changes (λ n. opening s.phase n (state_of s map)) x map' →
    Puts out at (says_line n x.says) y after → Puts out at (at_end n (state_of s map)) y after
unfolding at_end
end-told n s map changed told = rw (changed.steps n, at_end) told
