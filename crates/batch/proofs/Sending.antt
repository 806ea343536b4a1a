-- The sends of a table, one after another: with those to come the buffers will be as the definition says. Assumes nothing.
use Rattle.std.specs.Prelude.{Result, Ok, Err, MatchResult}
use Rattle.mesh.specs.declared.Refusal.{Refusal}
use mathlib.Core.Path.{◌≡◌, refl, sym, ap, ◌∙◌}
use mathlib.Core.List.{List}
use Prim.Native.Nat.{ℕ, ◌+◌, ◌*◌, ◌≤◌, ◌<◌}
use native.Mathlib.Nat.{add-zero}
use native.Mathlib.Omega.{arith}
use lib.ListN.{length, drop, set, length-set, length-append}
use lib.Seq.{drop-drop}
use Rattle.mesh.specs.Numbers.{number, answer_code}
use Rattle.mesh.specs.Routing.{routed_answer}
use Rattle.mesh.proofs.Numbers.{number-few}
use Rattle.numbers.specs.Coded.{Coded}
use Rattle.theory_batch.specs.declared.Send.{Send}
use Rattle.theory_batch.specs.Sends.{sends_of}
use Rattle.theory_batch.specs.Batch.{Call, calls, answers_of, letters_of}
use Rattle.theory_batch.proofs.Calls.{answers-length}
use Rattle.buffers.specs.Over.{over}
use Rattle.buffers.proofs.Over.{over-length, over-append, over-all, over-drop}
use Rattle.sends.specs.Sends.{send_at, wrote, RoutesSend}
use Rattle.batch.specs.Marked.{RoutesSends}
use Rattle.batch.proofs.Sends.{sends-next, sends-end}

-- a call's answer as one number
pub coded : {e : ℕ} (r : Result ℕ Refusal) → MatchResult r (λ n. e ≡ n) (λ why. Coded (λ k. k ≡ number why) e) → e ≡ answer_code (routed_answer r)
coded (Ok n) h = h
coded (Err why) (k, is-k, is-e) = rw (is-e (rw is-k (omega (arith, number-few why))), is-k)

-- the calls of the sends from index i on, with the output that is free from index at on
abbrev pub onward : (Send → List ℕ → Call) → List ℕ → ℕ → ℕ → List ℕ → List Call
onward route sends i at out = calls route (sends_of (drop (4 * i) sends)) (drop at out)

-- the sends before index i are answered, and their letters stand before index at
pub record Sending (route : Send → List ℕ → Call) (sends answers₀ out₀ : List ℕ) (i at : ℕ) (answers out : List ℕ) : Type 0 where
  pub within : at ≤ length out
  pub answers-size : length answers ≡ length answers₀
  pub out-size : length out ≡ length out₀
  pub entries : over answers i (answers_of (onward route sends i at out)) ≡ over answers₀ 0 (answers_of (calls route (sends_of sends) out₀))
  pub text : over out at (letters_of (onward route sends i at out)) ≡ over out₀ 0 (letters_of (calls route (sends_of sends) out₀))
  pub count : at + length (letters_of (onward route sends i at out)) ≡ length (letters_of (calls route (sends_of sends) out₀))

module _ {route : Send → List ℕ → Call} {sends answers₀ out₀ : List ℕ} where
  pub sending-none : Sending route sends answers₀ out₀ 0 0 answers₀ out₀
  sending-none =
      record { within = omega arith; answers-size = refl; out-size = refl; entries = refl; text = refl; count = omega arith }

  module _ {i at : ℕ} {answers out : List ℕ} (t : Sending route sends answers₀ out₀ i at answers out) where
    pub sending-more : {x : Send} {r : Result ℕ Refusal} {out' : List ℕ} {e n : ℕ} → 4 * i + 3 < length sends → x ≡ send_at sends i →
        RoutesSend route x out at r out' → e ≡ answer_code (routed_answer r) → n ≡ wrote r → Sending route sends answers₀ out₀ (i + 1) (at + n) (set answers i e) out'
    unfolding over calls answers_of letters_of
    sending-more {x = x} {out' = out'} {e = e} {n = n} h is_x s is-e is-n =
        let ls = (route x (drop at out)).letters in
        let wrote-ls : n ≡ length ls = omega (arith, is-n, s.puts.next) in
        let free : drop (at + n) out' ≡ drop (length ls) (drop at out) =
        rw (wrote-ls, s.puts.stands) (over-drop out at ls ∙ sym (drop-drop (length ls) at out)) in
        let size : length out' ≡ length out = ap length s.puts.stands ∙ over-length out at ls in
        let later = calls route (sends_of (drop (4 * (i + 1)) sends)) (drop (length ls) (drop at out)) in
        let entries = rw (sends-next sends i h, ← is_x) at t.entries in
        let text = rw (sends-next sends i h, ← is_x) at t.text in
        let count = rw (sends-next sends i h, ← is_x) at t.count in
        record {
          within = omega (arith, size, s.puts.fits, is-n);
          answers-size = length-set answers i e ∙ t.answers-size;
          out-size = size ∙ t.out-size;
          entries = rw (free, is-e, s.answers) entries;
          text = rw (free, wrote-ls, s.puts.stands) (sym (over-append out at ls (letters_of later)) ∙ text);
          count = rw (free, wrote-ls) (omega (arith, count, length-append ls (letters_of later)));
        }

    pub sending-all : length sends ≤ 4 * i → length (sends_of sends) ≤ length answers₀ → RoutesSends route sends answers₀ out₀ at answers out
    unfolding over calls answers_of letters_of
    sending-all h few =
        let entries = rw (sends-end sends i h) at t.entries in
        let text = rw (sends-end sends i h) at t.text in
        let count = rw (sends-end sends i h, add-zero) at t.count in
        record {
          counts = count;
          enters = entries ∙ over-all answers₀ (answers_of (calls route (sends_of sends) out₀)) (omega (arith, answers-length route (sends_of sends) out₀));
          writes = text ∙ over-all out₀ (letters_of (calls route (sends_of sends) out₀)) (omega (arith, t.within, t.out-size, count));
        }
