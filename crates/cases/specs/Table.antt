-- Document 01's cases marked †, document 02's, those of string starts, and the proof that each holds. Assumes nothing.
use Rattle.std.specs.Prelude.{List, [], ◌∷◌, ◌++◌, ℕ, ℤ, pos, negsuc, length, replicate}
use Rattle.loads.specs.Bits.{bits_of, digits, number, window}
use Rattle.bitcursor.specs.Code.{give, refuse, raw, ◌>>=◌, tabled, mapped, measured}
use Rattle.bitcursor.specs.Bytes.{bytes, bytes_read, low_first, high_first, skip}
use Rattle.loads.specs.Bytes.{low_number}
use Rattle.bitcursor.specs.Codes.{by_tag, tagged, B, B_read, BB, RC, RD, RL, BS, BS_read, signed_BS, BL, BL_read}
use Rattle.bitcursor.specs.Doubles.{BD, BD_read, one_pattern}
use Rattle.bitcursor.specs.Handles.{BLL, BLL_read, HANDLE, HANDLE_read, HANDLE_value, checked}
use Rattle.bitcursor.specs.Held.{held, marked}
use Rattle.bitcursor.specs.Answers.{limited}
use Rattle.bitcursor.specs.Format.{pure, refuse as refuse_format, ◌>>=◌ as bind_format, peek, relay, either}
use Rattle.bitcursor.specs.Fields.{at_least, part_in}
use Rattle.text.specs.Units.{units, units_read}
use Rattle.text.specs.Texts.{checked_units, TV, TV_read}
use Rattle.text.specs.Fields.{here, inline, past_end, room_for, from_reader}
use Rattle.text.specs.Layouts.{reader_text_format}
use Rattle.text.specs.TextField.{has_reader, TV_field, TV_read as TV_field_read}
use Rattle.text.specs.Answers.{released, inline_text, reader_text}
use Rattle.prefix_format.specs.declared.CommonEntityData.{CommonEntityData}
use Rattle.prefix_format.specs.Prefix.{chain, extended, graphics_block, graphics, name, prefix_by}
use Rattle.prefix_format.specs.Call.{prefix_call}
use Rattle.hatch_format.specs.Values.{Body}
use Rattle.hatch_format.specs.Counts.{summed, times_read, times, capped_read, capped, bounded_read, bounded, counted}
use Rattle.hatch_format.specs.Counts.{listed_by_read, listed_by, listed_read, listed}
use Rattle.hatch_format.specs.Points.{point_read, point, vertex_read, vertex, arc_read, arc_edge, ellipse_read, ellipse_edge}
use Rattle.hatch_format.specs.Splines.{fitted_by, fits_read, fits, spline_lists, spline_controls, spline_counts, spline_read, spline_edge}
use Rattle.hatch_format.specs.Edges.{edge_of, edge_read, edge}
use Rattle.hatch_format.specs.Paths.{handle_count_read, handle_count, segments_read, segments, path_read, path, paths}
use Rattle.hatch_format.specs.Patterns.{pattern_line_read, pattern_line, pattern_read, pattern, ending_read, ending, tail_read, tail, rest_read, rest}
use Rattle.hatch_format.specs.Gradients.{color_read, color, block_read, block, gradient_read, gradient}
use Rattle.hatch_format.specs.Hatch.{plane_read, plane, hatch_read, hatch}
use Rattle.hatch_format.specs.Entries.{words, numbers}
use Rattle.hatch_format.specs.Call.{Strings, none, lent, call_on}
use Rattle.cases.specs.Shown.{Shown, reading, refusal, shown, Case, of_each_release, Holds, holds, all_same}
use Rattle.cases.specs.Calls.{numbers_of, hatch_call_shown}
use Rattle.cases.specs.Padded.{padded_cases}
use Rattle.cases.specs.Starts.{start_cases}

abbrev number_of : ℕ → List ℤ
number_of v = pos v ∷ []

abbrev integer_of : ℤ → List ℤ
integer_of z = z ∷ []

-- a prefix's colour, the bits of its linetype scale, and its lineweight
abbrev fields_of : CommonEntityData ℕ → List ℤ
fields_of d = pos d.color_raw ∷ (pos d.ltype_scale ∷ (pos d.lineweight ∷ []))

-- a prefix call from bit 0: release, payload
abbrev prefix_call_shown : ℕ → List ℕ → Shown
prefix_call_shown release xs = shown fields_of (prefix_call release xs 0)

-- the lengths used of both lists
abbrev lengths_of : Body → List ℤ
lengths_of a = pos (length (words a.rest)) ∷ (pos (length (numbers a.rest)) ∷ [])

-- a hatch call, shown by these lengths
abbrev lengths_call : ℕ → List ℕ → Strings → ℕ → ℕ → Shown
lengths_call = hatch_call_shown lengths_of

-- the codes: 3F FF C0 is −1 signed and 65,535 unsigned as BS, ends at 18; C0 as BD is refusal 2 at 2; 31 80 as BLL is 140, ends at 11.
-- Reader's text, "Why a reading stops" 6 and 7: 40 40, bits 0 to 16, is refusal 6 at 10; 40 40 36 00, bits 0 to 32, is refusal 7 at 26.
-- The prefix: 85 D0 87 40 of release 2 has colour 256, scale 1.0 and lineweight 29, ends at 26; 40 42 40, of no named release, is refusal 5 at 18.
-- The hatch: A9 AA A0 of release 2 ends at 20, both lists empty, and of release 3 is refusal 1 at 22; no bytes, of no named release, are refusal 1
-- at 0; then the rows 2, 3, 4, 6, 7 and 11 of "Why a reading stops". Last, document 02's,
-- and those of string starts
unfoldable pub cases : List Case
cases =
    record { computed = shown integer_of (signed_BS.read (0x3f ∷ 0xff ∷ 0xc0 ∷ []) 0); stated = reading (negsuc 0 ∷ []) 18 0 }
    ∷ record { computed = shown number_of (BS.read (0x3f ∷ 0xff ∷ 0xc0 ∷ []) 0); stated = reading (pos 65535 ∷ []) 18 0 }
    ∷ record { computed = shown number_of (BD.read (0xc0 ∷ []) 0); stated = refusal 2 2 0 }
    ∷ record { computed = shown number_of (BLL.read (0x31 ∷ 0x80 ∷ []) 0); stated = reading (pos 140 ∷ []) 11 0 }
    ∷ record { computed = shown numbers_of (reader_text 16 (0x40 ∷ 0x40 ∷ []) 0); stated = refusal 6 10 0 }
    ∷ record { computed = shown numbers_of (reader_text 32 (0x40 ∷ 0x40 ∷ 0x36 ∷ 0x00 ∷ []) 0); stated = refusal 7 26 0 }
    ∷ record { computed = prefix_call_shown 2 (0x85 ∷ 0xd0 ∷ 0x87 ∷ 0x40 ∷ []); stated = reading (pos 256 ∷ (pos one_pattern ∷ (pos 29 ∷ []))) 26 0 }
    ∷ of_each_release (λ release. record { computed = prefix_call_shown release (0x40 ∷ 0x42 ∷ 0x40 ∷ []); stated = refusal 5 18 0 }) (
    record { computed = lengths_call 2 (0xa9 ∷ 0xaa ∷ 0xa0 ∷ []) none 0 0; stated = reading (pos 0 ∷ (pos 0 ∷ [])) 20 0 }
    ∷ record { computed = lengths_call 3 (0xa9 ∷ 0xaa ∷ 0xa0 ∷ []) none 0 0; stated = refusal 1 22 0 }
    ∷ of_each_release (λ release. record { computed = lengths_call release [] none 0 0; stated = refusal 1 0 0 }) (
    record { computed = lengths_call 3 (0xc0 ∷ []) none 0 0; stated = refusal 2 2 0 }
    ∷ record { computed = lengths_call 2 (0xa9 ∷ 0xa7 ∷ 0xfc ∷ []) none 0 0; stated = refusal 3 22 0 }
    ∷ record { computed = lengths_call 2 (0xa9 ∷ 0xa4 ∷ 0x06 ∷ 0x40 ∷ 0x41 ∷ 0x40 ∷ []) none 0 0; stated = refusal 4 42 0 }
    ∷ record { computed = lengths_call 2 (0xa9 ∷ []) (lent (0x40 ∷ 0x40 ∷ []) 0 16) 0 0; stated = refusal 6 8 10 }
    ∷ record { computed = lengths_call 2 (0xa9 ∷ []) (lent (0x40 ∷ 0x40 ∷ 0x36 ∷ 0x00 ∷ []) 0 32) 0 0; stated = refusal 7 8 26 }
    ∷ record { computed = lengths_call 2 (0xa9 ∷ 0xaa ∷ 0x90 ∷ 0x10 ∷ replicate 16 0) none 0 1; stated = refusal 11 156 0 }
    ∷ padded_cases ++ start_cases))

pub all_hold : Holds cases
unfolding cases padded_cases start_cases all_same
    signed_BS BS BS_read BD BD_read BLL BLL_read B B_read BB RC RD RL BL BL_read HANDLE HANDLE_read HANDLE_value tagged by_tag checked
    raw ◌>>=◌ tabled mapped measured give refuse held marked low_first high_first bytes bytes_read low_number skip window bits_of digits number limited
    pure refuse_format bind_format peek relay either part_in at_least
    reader_text inline_text units units_read checked_units released TV TV_read TV_field TV_field_read has_reader reader_text_format from_reader
    past_end room_for
    here inline
    prefix_call prefix_by extended chain graphics graphics_block name
    call_on hatch hatch_read plane plane_read gradient gradient_read block block_read color color_read rest rest_read tail tail_read ending ending_read
    pattern pattern_read pattern_line pattern_line_read paths path path_read segments segments_read handle_count handle_count_read edge edge_read
    edge_of spline_edge spline_read spline_counts spline_controls spline_lists fits fits_read fitted_by arc_edge arc_read ellipse_edge ellipse_read
    vertex vertex_read point point_read listed listed_read listed_by listed_by_read counted bounded bounded_read capped capped_read summed times times_read
all_hold = holds cases tt
