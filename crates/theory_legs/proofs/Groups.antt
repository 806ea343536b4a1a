-- A number read back from its groups is the same, and a number that is read has just its groups. Assumes nothing.
use Rattle.std.proofs.Common.{◌≡◌, refl, sym, ◌∙◌, inl, inr, List, [], ◌∷◌, ◌++◌, ℕ, zero, suc, ◌+◌, ◌*◌, ◌/◌, ◌%◌, ◌≤◌, ◌<◌, arith, lt-ltb, le-ltb, ltb, length}
use Rattle.std.proofs.lemmas.Bool.{cases_Bool}
use Rattle.std.proofs.Math.Decide.{dec_lt}
use Rattle.theory_legs.specs.Groups.{groups, number_bytes, Found, fault, found, and_then, above, read_groups, not_large, read_number}
use Rattle.theory_legs.specs.Claims.{Bytes}

-- Written

module _ (k n : ℕ) where
  groups-one : n < 128 → groups (suc k) n ≡ n ∷ []
  unfolding groups
  groups-one h = rw (lt-ltb n 128 h)

  groups-more : 128 ≤ n → groups (suc k) n ≡ (128 + n % 128) ∷ groups k (n / 128)
  unfolding groups
  groups-more h = rw (le-ltb n 128 h)

module _ (n : ℕ) where
  pub number-one : n < 128 → number_bytes n ≡ n ∷ []
  unfolding number_bytes
  number-one h = groups-one 2 n h

  pub number-two : 128 ≤ n → n < 16384 → number_bytes n ≡ (128 + n % 128) ∷ n / 128 ∷ []
  unfolding number_bytes
  number-two l h = rw (groups-more 2 n l, groups-one 1 (n / 128) (omega arith))

  pub number-three : 16384 ≤ n → n ≤ 65535 → number_bytes n ≡ (128 + n % 128) ∷ (128 + n / 128 % 128) ∷ n / 128 / 128 ∷ []
  unfolding number_bytes
  number-three l h =
      rw (groups-more 2 n (omega arith), groups-more 1 (n / 128) (omega arith), groups-one 0 (n / 128 / 128) (omega arith))

  pub size-one : n < 128 → length (number_bytes n) ≡ 1
  size-one h = rw (number-one h)

  pub size-two : 128 ≤ n → n < 16384 → length (number_bytes n) ≡ 2
  size-two l h = rw (number-two l h)

  pub size-three : 16384 ≤ n → length (number_bytes n) ≡ 3
  unfolding number_bytes groups
  size-three l =
      rw (le-ltb n 128 (omega arith), le-ltb (n / 128) 128 (omega arith))
      (elim (cases_Bool (ltb (n / 128 / 128) 128)) [ inl e ↦ rw e | inr e ↦ rw e ])

-- a number with how many groups it has
data Sized (n : ℕ) : Type 0 where
  one : n < 128 → Sized n
  two : 128 ≤ n → n < 16384 → Sized n
  three : 16384 ≤ n → Sized n

sized : (n : ℕ) → Sized n
sized n =
    elim (dec_lt n 128) [
      | yes h ↦ one h
      | no l ↦ elim (dec_lt n 16384) [ yes h ↦ two (omega arith) h | no k ↦ three (omega arith) ]
    ]

module _ (n : ℕ) where
  pub size_few : length (number_bytes n) ≤ 3
  size_few =
      elim (sized n) [
        | one h ↦ omega (arith, size-one n h)
        | two l h ↦ omega (arith, size-two n l h)
        | three l ↦ omega (arith, size-three n l)
      ]

  pub size-more : 128 ≤ n → 2 ≤ length (number_bytes n)
  size-more h =
      elim (sized n) [
        | one l ↦ absurd (omega arith)
        | two l m ↦ omega (arith, size-two n l m)
        | three l ↦ omega (arith, size-three n l)
      ]

-- Read

-- what was found, with its value
pub data Outcome {A : Type 0} (x : Found A) : Type 0 where
  faulty : (k : ℕ) → x ≡ fault k → Outcome x
  read : (a : A) (rest : List ℕ) → x ≡ found a rest → Outcome x

pub outcome : {A : Type 0} (x : Found A) → Outcome x
outcome (fault k) = faulty k refl
outcome (found a rest) = read a rest refl

-- a fault is not what was read
pub fault-found : {A B : Type 0} {x : Found A} {k : ℕ} {a : A} {rest : List ℕ} → x ≡ fault k → x ≡ found a rest → B
fault-found e f = let z : ◌≡◌ {A = ℕ} 0 1 = cc in absurd (omega arith)

module _ (k g : ℕ) (rest : List ℕ) where
  pub read-last : g < 128 → read_groups (suc k) (g ∷ rest) ≡ found g rest
  unfolding read_groups
  read-last h = rw (lt-ltb g 128 h)

  pub read_more : 128 ≤ g → read_groups (suc k) (g ∷ rest) ≡ and_then (read_groups k rest) (above g)
  unfolding read_groups
  read_more h = rw (le-ltb g 128 h)

-- how many numbers k groups tell apart
unfoldable pub groups_room : ℕ → ℕ
groups_room zero = 1
groups_room (suc k) = 128 * groups_room k

pub room-some : (k : ℕ) → 1 ≤ groups_room k
unfolding groups_room
room-some zero = omega arith
room-some (suc k) = omega (arith, room-some k)

read-groups : (k n : ℕ) (rest : List ℕ) → n < groups_room (suc k) → read_groups (suc k) (groups (suc k) n ++ rest) ≡ found n rest
unfolding groups_room and_then above
read-groups zero n rest h = rw (groups-one 0 n (omega arith)) (read-last 0 n rest (omega arith))
read-groups (suc k) n rest h =
    elim (dec_lt n 128) [
      | yes l ↦ rw (groups-one (suc k) n l) (read-last (suc k) n rest l)
      | no l ↦
          let g = 128 + n % 128 in
          let after = groups (suc k) (n / 128) ++ rest in
          rw (groups-more (suc k) n (omega arith))
          (read_more (suc k) g after (omega arith) ∙ rw (read-groups k (n / 128) rest (omega arith)) (on (n / 128) (omega arith) (omega arith)))
    ]
  where
    on : (m : ℕ) → 0 < m → (128 + n % 128) % 128 + m * 128 ≡ n → above (128 + n % 128) m rest ≡ found n rest
    on zero some e = absurd (omega arith)
    on (suc m) some e = rw e

pub read_number_lem : (n : ℕ) (rest : List ℕ) → n ≤ 65535 → read_number (number_bytes n ++ rest) ≡ found n rest
unfolding read_number number_bytes and_then not_large groups_room
read_number_lem n rest h = rw (read-groups 2 n rest (omega arith), le-ltb 65535 n h)

-- groups are bytes
groups-bytes : (k n : ℕ) → n < groups_room k → Bytes (groups k n)
unfolding groups groups_room Bytes
groups-bytes zero n h = tt
groups-bytes (suc k) n h =
    elim (dec_lt n 128) [
      | yes l ↦ rw (lt-ltb n 128 l) (omega arith, tt)
      | no l ↦ rw (le-ltb n 128 (omega arith)) (omega arith, groups-bytes k (n / 128) (omega arith))
    ]

pub number-bytes : (n : ℕ) → n ≤ 65535 → Bytes (number_bytes n)
unfolding number_bytes groups_room
number-bytes n h = groups-bytes 3 n (omega arith)

-- a group before others that were read
record Above (g n : ℕ) (rest : List ℕ) (m : ℕ) (after : List ℕ) : Type 0 where
  pub needed : 0 < n
  pub value : m ≡ g % 128 + n * 128
  pub left : rest ≡ after

above-told : (g n : ℕ) (rest : List ℕ) {m : ℕ} {after : List ℕ} → above g n rest ≡ found m after → Above g n rest m after
unfolding above
above-told g zero rest e = fault-found refl e
above-told g (suc n) rest e = record { needed = omega arith; value = sym cc; left = cc }

-- what is known of a number of k groups at most that was read
record GroupsRead (k : ℕ) (xs : List ℕ) (n : ℕ) (rest : List ℕ) : Type 0 where
  pub small : n < groups_room k
  pub spelled : Bytes xs → xs ≡ groups k n ++ rest
  pub left : Bytes xs → Bytes rest

groups-read : (k : ℕ) (xs : List ℕ) {n : ℕ} {rest : List ℕ} → read_groups k xs ≡ found n rest → GroupsRead k xs n rest
unfolding read_groups groups_room Bytes and_then
groups-read zero xs e = fault-found refl e
groups-read (suc k) [] e = fault-found refl e
groups-read (suc k) (g ∷ xs) {n} {rest} e =
    elim (dec_lt g 128) [
      | yes h ↦
          let f = read-last k g xs h in
          let same : g ≡ n = cc in
          let end : xs ≡ rest = cc in
          record {
            small = omega (arith, room-some k);
            spelled = λ bs. rw (groups-one k n (omega arith), ← same, ← end);
            left = λ bs. rw end at bs.1;
          }
      | no h ↦
          elim (outcome (read_groups k xs)) [
            | faulty j u ↦ fault-found {k = j} (read_more k g xs (omega arith) ∙ rw u) e
            | read m after u ↦
                let d : above g m after ≡ found n rest = sym (read_more k g xs (omega arith) ∙ rw u) ∙ e in
                let t = above-told g m after d in
                let i = groups-read k xs u in
                let high : n / 128 ≡ m = omega (arith, t.value) in
                record {
                  small = omega (arith, t.value, i.small);
                  spelled = λ bs.
                      let low : g ≡ 128 + n % 128 = omega (arith, t.value, bs.0) in
                      rw (groups-more k n (omega (arith, t.needed, t.value)), ← low, high, ← t.left, ← (i.spelled bs.1));
                  left = λ bs. rw t.left at (i.left bs.1);
                }
          ]
    ]

pub groups-small : (k : ℕ) (xs : List ℕ) {n : ℕ} {rest : List ℕ} → read_groups k xs ≡ found n rest → n < groups_room k
groups-small k xs e = (groups-read k xs e).small

-- what is known of a number that was read
pub record NumberRead (xs : List ℕ) (n : ℕ) (rest : List ℕ) : Type 0 where
  pub small : n ≤ 65535
  pub spelled : Bytes xs → xs ≡ number_bytes n ++ rest
  pub left : Bytes xs → Bytes rest

pub number_read : (xs : List ℕ) {n : ℕ} {rest : List ℕ} → read_number xs ≡ found n rest → NumberRead xs n rest
unfolding read_number and_then not_large number_bytes
number_read xs {n} {rest} e =
    elim (outcome (read_groups 3 xs)) [
      | faulty j u ↦ fault-found {k = j} (rw u) e
      | read m after u ↦
          elim (dec_lt 65535 m) [
            | yes l ↦ fault-found {k = 20} (rw (u, lt-ltb 65535 m l)) e
            | no l ↦
                let d : found m after ≡ found n rest = rw (u, le-ltb 65535 m (omega arith)) at e in
                let same : m ≡ n = cc in
                let end : after ≡ rest = cc in
                let t = groups-read 3 xs u in
                rw (← same, ← end) (record { small = omega arith; spelled = t.spelled; left = t.left })
          ]
    ]
