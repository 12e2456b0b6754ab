-- `load_list` meets its contract: the class for the list decides.
use Rattle.std.proofs.Common.{◌≡◌, sym, ap, ◌∙◌, arith, length}
use Rattle.std.proofs.Math.Option.{some}
use Rattle.scripthash_stream.specs.Stream.{stream_len}
use Rattle.book_rules.specs.Places.{loads_to}
use Rattle.book_rules.proofs.LawsRules.{loads_to_lem}
use Rattle.book.proofs.LawsPlace.{stream_at_most}
use Rattle.book_load.proofs.loading.load_list.Goals as goal

pub loads_to-requires : goal.loads_to-requires
loads_to-requires c =
    let pre = c.requires in (
      omega (arith, pre.two_fks),
      omega (arith, pre.bytes_are, pre.judged.few, stream_at_most 0 c.args.fks.now pre.judged.rises),
    )

pub load_slab-requires : goal.load_slab-requires
load_slab-requires c =
    let pre = c.requires in
    let to_slab : loads_to c.args.fit (length c.args.fks.now) (stream_len c.args.fks.now) ≡ some c.in-Some.class =
    sym (c.in-Some.ensures ∙ ap (loads_to c.args.fit (length c.args.fks.now)) c.requires.bytes_are) in
    let (few, low, fits) = loads_to_lem c.args.fit (length c.args.fks.now) (stream_len c.args.fks.now) to_slab in
    record { to_load = pre.to_load; low = low; few = few; rises = pre.judged.rises; fits = fits }
