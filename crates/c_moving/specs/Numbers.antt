-- "Move on" in numbers. Assumes nothing.
use Rattle.std.specs.Prelude.{◌≡◌, Bool, cond, ◌&&◌, List, [], ◌∷◌, ℕ, ltb, eqb, length, get_or}
use Rattle.mesh.specs.declared.Packet.{Packet}
use Rattle.mesh.specs.Mesh.{place}
use Rattle.mesh.specs.Headings.{last_of, last_number}
use Rattle.mesh.specs.Numbers.{is_network, network_of, no_request}
use Rattle.mesh.specs.Moving.{told_code, move_answer, move_record}

-- five numbers, with a last hop in the third place
unfoldable pub is_record : List ℕ → Bool
is_record xs = eqb (length xs) 5 && ltb (get_or xs 2 0) 5

-- packet records in numbers: row, column, last hop, destination row, destination column
unfoldable pub packet_of : List ℕ → Packet
packet_of xs =
    record { place = place (get_or xs 0 0) (get_or xs 1 0); last = last_of (get_or xs 2 0); destination = place (get_or xs 3 0) (get_or xs 4 0) }

unfoldable pub numbers_of : Packet → List ℕ
numbers_of p =
    p.place.row.0
    ∷ p.place.column.0 ∷ last_number p.last ∷ p.destination.row.0 ∷ p.destination.column.0 ∷ []

-- its promise; x is 65,536, and nothing is changed, if the number is no network's or the numbers are no record
pub record MovesInNumbers (network columns rows : ℕ) (map xs : List ℕ) (x : ℕ) (after : List ℕ) : Type 0 where
  pub answers : x ≡ cond (is_network network && is_record xs) (told_code (move_answer (network_of network) columns rows map (packet_of xs))) no_request
  pub leaves : after ≡ cond (is_network network && is_record xs) (numbers_of (move_record (network_of network) columns rows map (packet_of xs))) xs
