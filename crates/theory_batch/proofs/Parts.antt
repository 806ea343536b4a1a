-- The answers of a table tell how many letters each send has, so the output falls into them. Assumes nothing.
use Rattle.std.proofs.Common.{◌≡◌, refl, sym, ap, List, [], ◌∷◌, ◌++◌, map, append_assoc, ℕ, zero, suc, ◌+◌, ◌<◌, arith, lt-ltb, le-ltb, length, get_or, take, drop, take_at, drop_at}
use Rattle.mesh.specs.declared.Heading.{Heading}
use Rattle.mesh.specs.declared.Network.{Network}
use Rattle.mesh.specs.Numbers.{Answer, answer, refusal_code, answer_code}
use Rattle.mesh.specs.Routing.{route_refusal}
use Rattle.mesh.proofs.Lists.{letters-length}
use Rattle.theory_demands.specs.Demand3.{request_refusal}
use Rattle.theory_demands.proofs.Routes.{served-clear}
use Rattle.theory_demands.proofs.Theorems.{routes-are-short}
use Rattle.theory_batch.specs.declared.Send.{Send}
use Rattle.theory_batch.specs.Batch.{Call, unless_refused, call, route_call, calls, answers_of, letters_of}
use Rattle.theory_batch.specs.Claims.{alone, Gives, told, parts}

-- its answer tells how many letters a call has written
abbrev Tells : Call → Type 0
Tells c = told (answer_code c.answer) ≡ length c.letters

call-tells : (k : ℕ) (hs : List Heading) → (k ≡ 0 → length hs < 65536) → Tells (call k hs)
unfolding call told answer refusal_code unless_refused
call-tells zero hs short = rw (lt-ltb (length hs) 65536 (short refl)) (sym (letters-length hs))
call-tells (suc k) hs short = rw (le-ltb (65536 + suc k) 65536 (omega arith))

module _ (network : Network) (columns rows : ℕ) (faults : List ℕ) where
  route-tells : (x : Send) (free : List ℕ) → Tells (route_call network columns rows faults x free)
  unfolding route_call
  route-tells x free =
      call-tells (route_refusal network columns rows faults x.source x.destination free) _
      (λ e. let clear = served-clear network columns rows faults x.source x.destination free e in
      omega (arith, routes-are-short network columns rows faults x.source x.destination clear))

  alone-tells : (x : Send) → Tells (alone network columns rows faults x)
  unfolding alone
  alone-tells x =
      call-tells (request_refusal network columns rows faults x.source x.destination) _
      (λ e. omega (arith, routes-are-short network columns rows faults x.source x.destination e))

  -- so a call's letters can be read off its output
  pub alone-front : (x : Send) {out after : List ℕ} {a : Answer} → Gives (alone network columns rows faults x) out a after →
      take (told (answer_code a)) after ≡ (alone network columns rows faults x).letters
  alone-front x g = rw (g.answers, g.writes) (take_at (alone network columns rows faults x).letters _ _ (sym (alone-tells x)))

  pub calls-parted : (xs : List Send) (out rest : List ℕ) →
      parts (answers_of (calls (route_call network columns rows faults) xs out)) (letters_of (calls (route_call network columns rows faults) xs out) ++ rest) ≡
      map (λ c. c.letters) (calls (route_call network columns rows faults) xs out)
  unfolding calls answers_of letters_of parts
  calls-parted [] out rest = refl
  calls-parted (x ∷ xs) out rest =
      let c = route_call network columns rows faults x out in
      let more = letters_of (calls (route_call network columns rows faults) xs (drop (length c.letters) out)) ++ rest in
      let tells = route-tells x out in
      rw (append_assoc, take_at c.letters more _ (sym tells), drop_at c.letters more _ (sym tells))
      (ap (λ ps. c.letters ∷ ps) (calls-parted xs (drop (length c.letters) out) rest))

-- what a list has for the send after those before it
pub at-send {ℓ} : {B : Type ℓ} (g : Call → B) (f : Send → Call) (before : List Send) (x : Send) (after : List Send) (d : B) →
    get_or (map g (map f (before ++ (x ∷ after)))) (length before) d ≡ g (f x)
at-send g f [] x after d = refl
at-send g f (y ∷ before) x after d = at-send g f before x after d
