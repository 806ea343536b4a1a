-- Lines and what they say, by computation. Assumes nothing.
use Rattle.std.specs.Prelude.{◌≡◌, refl, Option, None, Some}
use Prim.Native.String.{String}
use Rattle.mesh.specs.Cases.{bytes}
use Rattle.mesh.specs.Mesh.{place}
use Rattle.sheet_words.specs.declared.Command.{Command}
use Rattle.sheet_words.specs.declared.Command.TheVariants.{Mesh, Fault, Send}
use Rattle.sheet_words.specs.Words.{is_digit, more, number, spaced, second, first, two, begins, ended, sizes, fault, send_to, send, command}

unfoldable pub says : String → Option Command
says s = command (bytes s)

pub examples :
    (says "mesh 10 8" ≡ Some (Mesh 10 8)) ×
    (says "fault 003 4" ≡ Some (Fault (place 3 4))) ×
    (says "send 1 5 6 5" ≡ Some (Send (place 1 5) (place 6 5))) ×
    (says "send 999 999 999 999" ≡ Some (Send (place 999 999) (place 999 999))) ×
    (says "mesh 1000 8" ≡ None) ×
    (says "mesh 10  8" ≡ None) ×
    (says "fault 3 4 " ≡ None) ×
    (says " fault 3 4" ≡ None) ×
    (says "mesh\t10 8" ≡ None) ×
    (says "mesh 10" ≡ None) ×
    (says "send 1 5 6" ≡ None) ×
    (says "fault3 4" ≡ None) ×
    (says "Mesh 10 8" ≡ None) ×
    (says "" ≡ None) ×
    (says "mesh 10 -8" ≡ None)
unfolding bytes is_digit more number spaced second first two begins ended sizes fault send_to send command says
examples = (refl, refl, refl, refl, refl, refl, refl, refl, refl, refl, refl, refl, refl, refl, refl)
