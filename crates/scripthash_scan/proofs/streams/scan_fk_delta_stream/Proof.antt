-- `scan_fk_delta_stream` meets its contract: the quick scan tells where the whole scan ends, or nothing. Assumes nothing.
use native.Mathlib.Omega.{arith}
use borrow.Author.Rules.{rules}
use Rattle.scripthash_forms.proofs.LawsTries.{quick_end_some}
use Rattle.scripthash_scan.proofs.streams.scan_fk_delta_stream.Statement.{statement}
use Rattle.scripthash_scan.proofs.streams.scan_fk_delta_stream.Tie as tie

scan_quickly-end-requires : tie.Need-scan_quickly-end-requires
scan_quickly-end-requires c κs = search rules

returns-then-end-gt0 : tie.Need-returns-then-end-gt0
returns-then-end-gt0 c = quick_end_some _ _ _ c.before.before.scan_quickly-end.ensures (omega arith)

scan_by_number-requires : tie.Need-scan_by_number-requires
scan_by_number-requires c κs = search rules

returns : tie.Need-returns
returns c = search rules

pub scan_fk_delta_stream_spec : {M : Type 1} → statement M
scan_fk_delta_stream_spec = tie.close (tie.spec scan_quickly-end-requires returns-then-end-gt0 scan_by_number-requires returns)
