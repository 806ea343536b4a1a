-- The channels of lawful hops, and of a passed hand-in's route: each may follow the one before it. Assumes nothing.
use Rattle.std.proofs.Common.{Some, ◌≡◌, refl, sym, ◌∙◌, true, List, [], ◌∷◌, ℕ}
use Rattle.std.proofs.lemmas.Bool.{and_parts, and_from}
use Rattle.mesh.specs.declared.Network.{Network}
use Rattle.mesh.specs.Mesh.{mesh}
use Rattle.mesh.specs.declared.Heading.{Heading}
use Rattle.mesh.specs.Headings.{letters}
use Rattle.mesh.specs.Parity.{turns_west}
use Rattle.mesh.specs.Rounds.{marked}
use Rattle.mesh.specs.Rules.{Trip}
use Rattle.mesh.specs.Hops.{At, fresh, moved, lawful}
use Rattle.mesh.specs.Maps.{map_tests}
use Rattle.mesh.specs.Requests.{place_tests}
use Rattle.mesh.specs.Judging.{follow, passed}
use Rattle.mesh.proofs.Headings.{letter-named}
use Rattle.mesh.proofs.Hops.{is-on-mesh, stays_on, lawful-stays, lawful-turns}
use Rattle.mesh.proofs.Maps.{map-numbered}
use Rattle.mesh.proofs.Requests.{on_row, on-column, placed}
use Rattle.mesh.proofs.Tests.{clear-before, clear_next}
use Rattle.theory_judging.specs.Claims.{LawfulHandIn, lawful_hops, after, refusal_of, trip_to}
use Rattle.theory_judging.proofs.Theorems.{route-is-lawful, passed-is-clear, judgement-is-lawful}
use Rattle.theory_channels.specs.Channels.{Channel, is_channel, end_row, end_column, MayFollow}
use Rattle.theory_channels.specs.Waiting.{HandIn, verdict, through, channels, route}
use Rattle.theory_channels.specs.Claims.{OnMesh}
use Rattle.theory_channels.proofs.Channels.{permitted-follows}
use Rattle.theory_channels.proofs.Turns.{permitted-told}
use Rattle.theory_channels.proofs.Linked.{Linked, empty, single, link}

-- the channel of a hop from p
abbrev channel : At → Heading → Channel
channel p h = record { row = p.row; column = p.column; way = h }

-- letters lead through the channels of their hops
channels-next : (p : At) (h : Heading) (hs : List Heading) → channels p (letters (h ∷ hs)) ≡ channel p h ∷ channels (moved h p) (letters hs)
unfolding channels letters through follow
channels-next p h hs = rw (letter-named h)

-- Of lawful hops on a mesh.
module _ (t : Trip) where
  pub lawful-on : (p : At) (h : Heading) → OnMesh t p → lawful t p h ≡ true → OnMesh t (moved h p)
  unfolding moved
  lawful-on p h o l =
      let (i, j) = stays_on h o.row o.column (lawful-stays t p h l) in
      record { row = i; column = j }

  module _ (map : List ℕ) where
    lawful-channel : (p : At) (h : Heading) → OnMesh t p → lawful t p h ≡ true → is_channel (mesh t.columns t.rows map) (channel p h) ≡ true
    unfolding is_channel
    lawful-channel p h o l =
        and_from _ _ (is-on-mesh (mesh t.columns t.rows map) p.row p.column o.row o.column) (lawful-stays t p h l)

    -- a lawful hop after another
    lawful-follows : (p : At) (g h : Heading) → OnMesh t p → lawful t p g ≡ true → lawful t (moved g p) h ≡ true →
        MayFollow t.west (mesh t.columns t.rows map) (channel p g) (channel (moved g p) h)
    unfolding moved end_row end_column
    lawful-follows p g h o l m =
        permitted-follows t.west (mesh t.columns t.rows map) (channel p g) (channel (moved g p) h)
        (lawful-channel p g o l)
        (lawful-channel (moved g p) h (lawful-on p g o l) m)
        refl
        refl
        (permitted-told t.west (moved g p).column (Some g) h (lawful-turns t (moved g p) h m))

    pub hops-linked : (p : At) (hs : List Heading) → OnMesh t p → lawful_hops t p hs ≡ true →
        Linked (MayFollow t.west (mesh t.columns t.rows map)) (channels p (letters hs))
    unfolding lawful_hops channels letters
    hops-linked p [] o e = empty
    hops-linked p (h ∷ []) o e = rw (channels-next p h []) single
    hops-linked p (g ∷ h ∷ hs) o e =
        let (l, more) = and_parts _ _ e in
        let rest = hops-linked (moved g p) (h ∷ hs) (lawful-on p g o l) more in
        rw (channels-next p g (h ∷ hs), channels-next (moved g p) h hs)
        (link (lawful-follows p g h o l (and_parts _ _ more).0) (rw (channels-next (moved g p) h hs) at rest))

  -- they end on the mesh
  pub after_on : (p : At) (hs : List Heading) → OnMesh t p → lawful_hops t p hs ≡ true → OnMesh t (after hs p)
  unfolding lawful_hops after
  after_on p [] o e = o
  after_on p (h ∷ hs) o e = let (l, more) = and_parts (lawful t p h) _ e in after_on (moved h p) hs (lawful-on p h o l) more

-- Of a hand-in that judging passes on a network.
module _ (network : Network) (columns rows : ℕ) (map : List ℕ) (h : HandIn) {n : ℕ}
    (e : verdict network columns rows map h ≡ passed n) where
  pub clear : refusal_of columns rows map h.source h.destination ≡ 0
  clear = passed-is-clear network columns rows map h.source h.destination h.letters n e

  -- it starts on the mesh
  pub source-on : OnMesh (trip_to network columns rows map h.destination) (fresh h.source)
  source-on =
      let w = marked (mesh columns rows map) in
      let tests = place_tests w h.source h.destination in
      let next = clear_next (map_tests columns rows map) tests (map-numbered columns rows map) (clear-before (map_tests columns rows map) tests clear) in
      let on = (placed w h.source h.destination (sym next ∙ clear)).source-on in
      record { row = on_row w h.source on; column = on-column w h.source on }

  -- and spells a lawful route
  pub spells : LawfulHandIn (trip_to network columns rows map h.destination) (fresh h.source) h.letters
  spells = ((judgement-is-lawful network columns rows map h.source h.destination clear h.letters n).0 e).0

  pub hops-lawful : lawful_hops (trip_to network columns rows map h.destination) (fresh h.source) spells.hops ≡ true
  hops-lawful =
      ((route-is-lawful (trip_to network columns rows map h.destination) (fresh h.source) spells.hops).0 spells.route).0

  pub passed-linked : Linked (MayFollow (turns_west network) (mesh columns rows map)) (route h)
  unfolding route
  passed-linked =
      rw (← spells.spelled)
      (hops-linked (trip_to network columns rows map h.destination) map (fresh h.source) spells.hops source-on hops-lawful)
