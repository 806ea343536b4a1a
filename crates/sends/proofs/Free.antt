-- Route with the part of an output that is still free: its letters stand from there on. Assumes nothing.
use Rattle.std.specs.Prelude.{Result, Ok, Err}
use Rattle.mesh.specs.declared.Refusal.{Refusal}
use mathlib.Core.Path.{◌≡◌, refl, sym, ap, ◌∙◌}
use mathlib.Core.List.{List, [], ◌++◌, append-nil}
use Prim.Native.Nat.{ℕ, zero, suc, ◌+◌, ◌-◌, ◌≤◌}
use native.Mathlib.Omega.{arith}
use lib.ListN.{length, take, drop, length-append, length-drop, drop_of_length-le}
use lib.Seq.{take_all, drop-drop}
use Rattle.mesh.specs.declared.Heading.{Heading}
use Rattle.mesh.specs.declared.Network.{Network}
use Rattle.mesh.specs.Mesh.{Mesh}
use Rattle.mesh.specs.Headings.{letters}
use Rattle.mesh.specs.Numbers.{answer}
use Rattle.mesh.specs.Routing.{routed_answer}
use Rattle.mesh.proofs.Lists.{letters-length}
use Rattle.theory_batch.specs.declared.Send.{Send}
use Rattle.theory_batch.specs.Batch.{unless_refused, call}
use Rattle.theory_batch.proofs.Calls.{written-unless}
use Rattle.buffers.proofs.Over.{over-from}
use Rattle.routing.specs.Marked.{RoutesOn}
use Rattle.sends.specs.Sends.{wrote, route_call_on, RoutesSend}

-- an answer tells how many letters were written
wrote-unless : (k : ℕ) (hs : List Heading) (r : Result ℕ Refusal) → routed_answer r ≡ answer k (length hs) → wrote r ≡ length (unless_refused k (letters hs))
unfolding answer unless_refused
wrote-unless zero hs (Ok n) e = let m : n ≡ length hs = cc in m ∙ sym (letters-length hs)
wrote-unless zero hs (Err why) e = cc
wrote-unless (suc k) hs (Ok n) e = cc
wrote-unless (suc k) hs (Err why) e = refl

module _ (network : Network) (w : Mesh) (x : Send) (out : List ℕ) (at : ℕ) (within : at ≤ length out) where
  rest-size : length (drop at out) ≡ length out - at
  rest-size = length-drop at out

  free-routed : {r : Result ℕ Refusal} {mid : List ℕ} → RoutesOn network w x.source x.destination (drop at out) r mid → length mid ≡ length (drop at out) →
      RoutesSend (route_call_on network w) x out at r (take at out ++ mid)
  unfolding route_call_on call
  free-routed {r} {mid} t size =
      let ls = (route_call_on network w x (drop at out)).letters in
      let n : wrote r ≡ length ls = wrote-unless _ _ r t.answers in
      let stands : mid ≡ ls ++ drop (length ls) (drop at out) = t.writes ∙ written-unless _ _ _ in
      let whole = ap length stands ∙ length-append ls (drop (length ls) (drop at out)) in
      let fits : at + length ls ≤ length out = omega (arith, whole, size, rest-size, length-drop (length ls) (drop at out)) in
      record {
        answers = t.answers;
        puts = record {
          next = rw n;
          stands = sym (over-from out at ls fits ∙ rw (stands, drop-drop));
          fits = rw n fits;
        };
      }

  -- the part that is lent is all that is free
  lent : take (length out - at) (drop at out) ≡ drop at out
  lent = take_all (length out - at) (drop at out) (omega (arith, rest-size))

  none_after : drop (length out - at) (drop at out) ≡ []
  none_after = drop_of_length-le (drop at out) {i = length out - at} (omega (arith, rest-size))

  pub send-routed : {r : Result ℕ Refusal} {mid : List ℕ} → RoutesOn network w x.source x.destination (take (length out - at) (drop at out)) r mid →
      length mid ≡ length (take (length out - at) (drop at out)) →
      RoutesSend (route_call_on network w) x out at r (take at out ++ (mid ++ drop (length out - at) (drop at out)))
  send-routed {mid = mid} t size = rw (none_after, append-nil mid) (free-routed (rw lent at t) (rw lent at size))
