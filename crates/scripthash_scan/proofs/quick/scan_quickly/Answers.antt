-- What it calls tells.
use Rattle.scripthash_stream.proofs.LawsScanEnd.{ends_whole}
use Rattle.scripthash_scan.proofs.quick.scan_quickly.Goals as goal

pub returns : goal.returns
returns c = rw (ends_whole c.args.n c.args.buf.now) at c.sum_forms.ensures.ends
