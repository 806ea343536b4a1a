-- The worked example of document 01, and sheets with bad lines and refusals, in one list with one claim. Assumes nothing.
use Rattle.std.specs.Prelude.{Bool, true, ◌&&◌, List, [], ◌∷◌, T}
use Prim.Native.String.{String}
use Rattle.mesh.specs.Mesh.{on_mesh}
use Rattle.mesh.specs.Headings.{row_after, column_after, letters}
use Rattle.mesh.specs.Parity.{turns_west}
use Rattle.mesh.specs.Tests.{first}
use Rattle.mesh.specs.Nodes.{is_bad, bad, ahead, upright, rule_a, rule_b, unsafe, near_in_row}
use Rattle.mesh.specs.Rounds.{become, advance, round, same_list, settle}
use Rattle.mesh.specs.Blocks.{run, corner, block_at, select, blocks, reaches, some_block}
use Rattle.mesh.specs.Rules.{blocked, side, toward, own, stopped, again, at_destination, in_row, leaving, across, nearing, other_row, hop}
use Rattle.mesh.specs.Hops.{moved}
use Rattle.mesh.specs.Walk.{arrived, hop_at, walk, shut_in, meets_edge, distance, detours, bound}
use Rattle.mesh.specs.Maps.{allowed, bad_size, some, misplaced_at, misplaced}
use Rattle.mesh.specs.Requests.{off_mesh, in_block, block_near_in_row, unserved, place_tests, trip_tests, request_tests}
use Rattle.mesh.specs.Routing.{hops_of}
use Rattle.mesh.specs.Cases.{bytes}
use Rattle.sheet_words.specs.Words as words
use Rattle.sheet_words.specs.Words.{is_digit, more, number, spaced, second, two, begins, ended, sizes, fault, send_to, send, command, command_at}
use Rattle.sheet_prints.specs.Prints.{digits, decimal, line, spaced_letters, ok_line}
use Rattle.theory_sheet.specs.Sheet.{before, lines_of, mesh_line, fault_line, is_misplaced, blocks_line, opening, change, answer_of, send_answer, answer_to, answering, command_step, command_of, line_step, at_end, answers, sheet}

-- a sheet, and what is printed for it
pub record Case : Type 0 where
  pub given : String
  pub printed : String

abbrev pub gives : String → String → Case
gives a b = record { given = a; printed = b }

unfoldable pub all_print : List Case → Bool
all_print [] = true
all_print (x ∷ xs) = same_list (sheet (bytes x.given)) (bytes x.printed) && all_print xs

unfoldable pub cases : List Case
cases =
    gives "mesh 10 8\nfault 3 4\nfault 4 5\nsend 1 5 6 5\nsend 3 0 3 9\nsend 1 1 4 6\n" "blocks 1\nok 11 WNWWNNNNEEE\nok 13 EEENNEEEESSEE\nno 8\n" ∷
    gives "" "line 1\n" ∷
    gives "mesh 10 8\n" "blocks 0\n" ∷
    gives "mesh 0 99\n" "no 1\n" ∷
    gives "mesh 64 065\n" "no 2\n" ∷
    gives "mesh 0 0" "line 1\n" ∷
    gives "send 1 1 1 1\n" "line 1\n" ∷
    gives "mesh 10 8\nmesh 10 8\n" "line 2\n" ∷
    gives "mesh 10 8\nfault 3  4\n" "line 2\n" ∷
    gives "mesh 10 8\nfault 3 4\nfault 3 4\n" "blocks 1\n" ∷
    gives "mesh 10 8\nfault 0 0\nsend 1 1 1 1\n" "no 5\n" ∷
    gives "mesh 10 8\nfault 0 0\nsend 1 1 1 1" "line 3\n" ∷
    gives "mesh 10 8\nfault 8 0\n" "line 2\n" ∷
    gives "mesh 10 8\nsend 1 1 1 1\nfault 3 4\n" "blocks 0\nok 0\nline 3\n" ∷
    gives "mesh 10 8\nsend 1 1 8 1\nsend 1 1 1 1\n" "blocks 0\nno 6\nok 0\n" ∷
    []

pub cases-print : T (all_print cases)
unfolding cases all_print sheet answers at_end line_step command_of command_step answering answer_to send_answer answer_of
    change opening blocks_line is_misplaced fault_line mesh_line lines_of before ok_line spaced_letters line decimal digits
    command_at command send send_to fault sizes ended begins two words.first second spaced number more is_digit bytes
    hops_of request_tests trip_tests place_tests unserved block_near_in_row in_block off_mesh misplaced misplaced_at some bad_size allowed
    bound detours distance meets_edge shut_in walk hop_at arrived moved hop other_row nearing across leaving in_row at_destination again
    stopped own toward side blocked near_in_row some_block reaches blocks select block_at corner run settle same_list round
    advance become unsafe rule_b rule_a upright ahead bad is_bad first turns_west letters column_after row_after on_mesh
cases-print = tt
