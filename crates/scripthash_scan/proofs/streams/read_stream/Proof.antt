-- `read_stream` meets its contract: the stream is scanned first; or the quick reading is the whole one, or left the list. Assumes nothing.
use native.Mathlib.Omega.{arith}
use borrow.Author.Rules.{rules}
use Rattle.scripthash_forms.proofs.LawsTries.{quick_left, quick_right}
use Rattle.scripthash_scan.proofs.streams.read_stream.Statement.{statement}
use Rattle.scripthash_scan.proofs.streams.read_stream.Tie as tie

scanned_first-requires : tie.Need-scanned_first-requires
scanned_first-requires c κs = search rules

scan_and_fill-requires : tie.Need-scan_and_fill-requires
scan_and_fill-requires c κs = search rules

shape_of-out-then-scanned_first : tie.Need-shape_of-out-then-scanned_first
shape_of-out-then-scanned_first c = search rules

returns-then-scanned_first : tie.Need-returns-then-scanned_first
returns-then-scanned_first c = search rules

decode_quickly-taken-requires : tie.Need-decode_quickly-taken-requires
decode_quickly-taken-requires c κs = search rules

shape_of-out-then-taken-gt0 : tie.Need-shape_of-out-then-taken-gt0
shape_of-out-then-taken-gt0 c = search rules

returns-then-taken-gt0 : tie.Need-returns-then-taken-gt0
returns-then-taken-gt0 c = quick_right _ _ _ _ c.before.before.before.decode_quickly-taken.ensures (omega arith)

decode_in_two_passes-requires : tie.Need-decode_in_two_passes-requires
decode_in_two_passes-requires c κs = search rules

shape_of-out : tie.Need-shape_of-out
shape_of-out c = search rules

returns : tie.Need-returns
returns c =
    let left = quick_left _ _ _ _ c.before.before.before.before.before.before.before.decode_quickly-taken.ensures (omega arith) in
    rw left at c.before.before.decode_in_two_passes.ensures

pub read_stream_spec : {M : Type 1} → statement M
read_stream_spec =
    tie.close
    (tie.spec
    scanned_first-requires
    scan_and_fill-requires
    shape_of-out-then-scanned_first
    returns-then-scanned_first
    decode_quickly-taken-requires
    shape_of-out-then-taken-gt0
    returns-then-taken-gt0
    decode_in_two_passes-requires
    shape_of-out
    returns)
