-- There and back from either side changes nothing in what the first way accepts. Assumes nothing.
use Rattle.std.proofs.Common.{None, ◌≡◌, ap, sym, ◌∙◌, ◌↔◌, List, [], append-nil, ℕ}
use Rattle.mesh.specs.Headings.{letters}
use Rattle.theory_legs.specs.Groups.{found}
use Rattle.theory_legs.specs.Legs.{Leg, hops}
use Rattle.theory_legs.specs.Files.{file, read_file}
use Rattle.theory_legs.specs.Converting.{legs_of, hops_named, file_of, legs_in, letters_of}
use Rattle.theory_legs.specs.Claims.{Bytes, RouteAccepted, FileAccepted, FileOfRoute}
use Rattle.theory_legs.proofs.Legs.{hops-of-legs, legs-straight, legs-of-hops}
use Rattle.theory_legs.proofs.Files.{file-bytes, read-file, FileRead, file-read}
use Rattle.theory_legs.proofs.Letters.{hops-of-letters, letters-no-other, letters-of-hops}
use Rattle.theory_legs.proofs.Refusals.{accepted-fits, fits-accepted}
use Rattle.theory_legs.proofs.FileRefusals.{accepted-legs, legs-accepted}

-- The file of a route

module _ (xs : List ℕ) (a : RouteAccepted xs) where
  route-read : read_file (file_of xs) ≡ found (legs_of xs) []
  unfolding file_of
  route-read = read-file (legs_of xs) (legs-straight (hops_named xs)) (accepted-fits xs a).1

  pub route-file-bytes : Bytes (file_of xs)
  unfolding file_of
  route-file-bytes = file-bytes (legs_of xs) (legs-straight (hops_named xs)) (accepted-fits xs a).1

  pub route-file-accepted : FileAccepted (file_of xs)
  route-file-accepted = legs-accepted (file_of xs) route-read

  pub route-file-letters : letters_of (file_of xs) ≡ xs
  unfolding letters_of legs_in
  route-file-letters = rw (route-read, hops-of-legs (hops_named xs)) (letters-of-hops xs (accepted-fits xs a).0)

-- The letters of a file

module _ (ys : List ℕ) (bs : Bytes ys) (a : FileAccepted ys) where
  legs-there : List Leg
  legs-there = (accepted-legs ys a).found-legs

  there-read : FileRead ys legs-there []
  unfolding legs-there
  there-read = file-read ys bs (accepted-legs ys a).is_found

  letters-there : letters_of ys ≡ letters (hops legs-there)
  unfolding letters_of legs_in legs-there
  letters-there = rw (accepted-legs ys a).is_found

  -- the legs of a file's letters are those that were read
  letters-legs : legs_of (letters_of ys) ≡ legs-there
  letters-legs = rw (letters-there, hops-of-letters (hops legs-there)) (legs-of-hops None legs-there there-read.straight)

  pub file-letters-accepted : RouteAccepted (letters_of ys)
  file-letters-accepted =
      fits-accepted (letters_of ys) (rw letters-there (letters-no-other (hops legs-there))) (rw letters-legs there-read.fits)

  pub file-letters-file : file_of (letters_of ys) ≡ ys
  unfolding file_of
  file-letters-file = rw letters-legs (sym (there-read.spelled ∙ append-nil (file legs-there)))

-- Exactly one file

pub only-file : (xs ys : List ℕ) → Bytes ys → FileAccepted ys → letters_of ys ≡ xs → ys ≡ file_of xs
only-file xs ys bs a e = sym (file-letters-file ys bs a) ∙ ap file_of e

pub accepted-is-file : (ys : List ℕ) → Bytes ys → FileAccepted ys ↔ FileOfRoute ys
accepted-is-file ys bs = (
  λ a. record { route = letters_of ys; accepted = file-letters-accepted ys bs a; spelled = file-letters-file ys bs a },
  λ f. rw f.spelled at (route-file-accepted f.route f.accepted),
)
