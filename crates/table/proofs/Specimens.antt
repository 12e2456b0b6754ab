-- The table of specimens holds: each equation is computed on both sides. Assumes nothing.
use mathlib.Core.Path.{refl}
use Rattle.error.specs.Refusal.{refuse_if, and_then}
use Rattle.buffer.specs.Bytes.{part}
use Rattle.compact.specs.Uleb128.{is_form, value, form_at, overflows, read_form, read_uleb, divided, shortest, uleb_len}
use Rattle.scripthash_layout.specs.Head.{pack_head, unpack_head}
use Rattle.scripthash_stream.specs.Stream.{stream_from, stored_number, next_number, scan_from, decode_stream}
use Rattle.scripthash_slabs.specs.Slab.{slab_payload, decode_slab}
use Rattle.scripthash_cutting.specs.Cutting.{fitting, first_part, greedy_parts, replace_last, ranges_from}
use Rattle.table.specs.Table.{Specimens, in_aRow}

pub specimens : Specimens
unfolding refuse_if and_then part is_form value form_at overflows read_form read_uleb divided shortest pack_head unpack_head stream_from
    stored_number next_number scan_from decode_stream slab_payload decode_slab uleb_len fitting first_part greedy_parts replace_last ranges_from in_aRow
specimens =
    record {
      S1 = (record { written = refl; read = refl }, record { written = refl; read = refl });
      S2 = record { written = refl; read = refl };
      S3 = refl;
      S4 = refl;
      S5 = (refl, refl);
      S6 = record { written = refl; read = refl };
      S7 = refl;
      S8 = record { packed = refl; unpacked = refl };
      S9 = refl;
      S10 = (refl, refl);
    }
