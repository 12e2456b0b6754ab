-- `pack_stream`: the stream's encoder is lent the part behind the header, and what is behind the stream is cleared.
use Prim.Native.Nat.{ℕ, ◌+◌, ◌-◌, ◌≤◌}
use mathlib.Core.List.{List}
use mathlib.Core.Path.{◌≡◌, sym, ap, ◌∙◌}
use native.Mathlib.Omega.{arith}
use lib.ListN.{length, take}
use lib.Seq.{length-take-le}
use Rattle.error.specs.Refusal.{accepted, refused}
use Rattle.buffer.specs.Bytes.{overwrite}
use Rattle.buffer.proofs.LawsBytes.{length_overwrite}
use Rattle.scripthash_layout.specs.Sizes.{page_size}
use Rattle.scripthash_stream.specs.Stream.{stream, encode_stream, after_encode}
use Rattle.scripthash_stream.proofs.LawsStream.{length_stream}
use Rattle.scripthash_stream.proofs.LawsEncode.{encode_accepted}
use Rattle.scripthash_stream.proofs.LawsLent.{lent, put_back, length_lent, lent_no, lent_yes}
use Rattle.scripthash_fields.proofs.LawsFields.{set_no, set_yes}
use Rattle.scripthash_pages.specs.Pack.{packed}
use Rattle.scripthash_pages.proofs.LawsPack.{packed_stop, packed_fits, stream_cleared}
use Rattle.scripthash_pages.proofs.pack.pack_stream.Goals as goal

-- the encoder was lent the part of a page from an offset on, and wrote a stream of so many bytes there
module _ (page fks out : List ℕ) (off len : ℕ) (long : length page ≡ page_size) (inside : off ≤ page_size)
    (wrote : out ≡ after_encode (lent page off) fks (encode_stream (length (lent page off)) fks))
    (told : accepted len ≡ encode_stream (length (lent page off)) fks) where
  is : encode_stream (length page - off) fks ≡ accepted len
  is = sym (told ∙ ap (λ (r : ℕ). encode_stream r fks) (length_lent page off (omega arith)))

  ends : length (stream fks) ≡ len
  ends = let h = encode_accepted (length page - off) fks is in length_stream 0 fks ∙ h.2

  within : off + len ≤ page_size
  within = let h = encode_accepted (length page - off) fks is in omega (arith, h.1, h.2)

  between_is : put_back page off out ≡ overwrite page off (stream fks)
  between_is = lent_yes page off (omega arith) fks out wrote is

  between_long : off + len ≤ length (put_back page off out)
  between_long =
      let size = ends in
      let fits = within in
      omega (arith, ap length between_is ∙ length_overwrite page off (stream fks) (omega arith))

pub returns-in_err-len-clause-page : goal.returns-in_err-len-clause-page
returns-in_err-len-clause-page c =
    let page = c.args.page.now in
    let off = c.args.off in
    let fks = c.args.fks.now in
    let inside : off ≤ length page = omega arith in
    let room : page_size - length (take off page) ≡ length page - off = omega (arith, length-take-le off page inside) in
    let stop = sym (c.in_err-len.ensures.answer ∙ ap (λ (r : ℕ). encode_stream r fks) (length_lent page off inside)) in
    let stopped = packed_stop (take off page) fks (omega arith) (ap (λ (r : ℕ). encode_stream r fks) room ∙ stop) in
    lent_no page off inside fks c.encode_fk_delta_stream_into.new.out c.in_err-len.ensures.bytes stop
    ∙ (set_no page (packed (take off page) fks) stopped).1

pub overflow_add-end : goal.overflow_add-end
overflow_add-end c =
    omega (
      arith,
      within c.args.page.now c.args.fks.now c.encode_fk_delta_stream_into.new.out c.args.off c.in_ok-len.len (omega arith) (omega arith)
          c.in_ok-len.ensures.bytes c.in_ok-len.ensures.answer,
    )

pub slice_bounds-fill-count : goal.slice_bounds-fill-count
slice_bounds-fill-count c =
    between_long c.args.page.now c.args.fks.now c.encode_fk_delta_stream_into.new.out c.args.off c.in_ok-len.len (omega arith) (omega arith)
    c.in_ok-len.ensures.bytes c.in_ok-len.ensures.answer

pub slice_bounds-fill-start : goal.slice_bounds-fill-start
slice_bounds-fill-start c =
    between_long c.args.page.now c.args.fks.now c.encode_fk_delta_stream_into.new.out c.args.off c.in_ok-len.len (omega arith) (omega arith)
    c.in_ok-len.ensures.bytes c.in_ok-len.ensures.answer

pub returns-clause-page : goal.returns-clause-page
returns-clause-page c =
    let page = c.args.page.now in
    let off = c.args.off in
    let fks = c.args.fks.now in
    let out = c.encode_fk_delta_stream_into.new.out in
    let len = c.in_ok-len.len in
    let wrote = c.in_ok-len.ensures.bytes in
    let told = c.in_ok-len.ensures.answer in
    let long : length page ≡ page_size = omega arith in
    let inside : off ≤ page_size = omega arith in
    let room : page_size - length (take off page) ≡ length page - off = omega (arith, length-take-le off page (omega arith)) in
    let size = ends page fks out off len long inside wrote told in
    let end : off + len ≡ off + length (stream fks) = omega (arith, size) in
    let fits : off + length (stream fks) ≤ page_size = omega (arith, size, within page fks out off len long inside wrote told) in
    let whole = packed_fits (take off page) fks (omega arith)
    (ap (λ (r : ℕ). encode_stream r fks) room ∙ is page fks out off len long inside wrote told) in
    (set_yes page _ (packed (take off page) fks) whole
    (stream_cleared page off (stream fks) (put_back page off out) (off + len) c.fill.new.self long fits end
    (between_is page fks out off len long inside wrote told)
    (c.fill.ensures.after (λ y e. cc)))).1
