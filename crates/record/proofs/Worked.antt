-- By computation: lengths and places are 01's numbers; the bytes of panel G with M 3,000 are its record and are read as G; and no byte is.
-- Assumes nothing.
use Prim.Native.Nat.{ℕ, ◌+◌, ◌*◌}
use mathlib.Core.Path.{◌≡◌, refl}
use mathlib.Core.List.{[]}
use Rattle.panel.specs.Lamellae.{lamellae_of, thickness}
use Rattle.panel.specs.Worked.{g}
use Rattle.section.specs.Sections.{counted_from, total, lowest, highest, section_of}
use Rattle.section.specs.Tests.{carries}
use Rattle.refusals.specs.Causes.{some}
use Rattle.record.specs.Layouts.{
  front_length,
  head_length,
  count_place,
  lamella_place,
  length_with,
  shortest,
  longest,
  lamellae_in,
  panel_in,
  panel_of,
  board_bytes,
  lamella_bytes,
  encode,
}
use Rattle.record.specs.Refusals.{record_refusal}
use Rattle.record.specs.Answers.{decode}
use Rattle.std.specs.Prelude.{Ok}
use Rattle.record.specs.Taken.{g_bytes, taken_for}

-- Lengths and places

pub front_is : front_length 1 ≡ 3
front_is = refl

-- "a face byte after the version"
pub front_with_face : front_length 2 ≡ 4
front_with_face = refl

pub head_is : head_length ≡ 14
head_is = refl

-- where n stands without boards
pub count_place_is : count_place 1 0 ≡ 17
count_place_is = refl

-- "A slice part from 18 + 4c", in version 2 from 19 + 4c
pub lamella_place_is : (c : ℕ) → lamella_place 1 c ≡ 18 + 4 * c
lamella_place_is c = refl

pub lamella_place_2 : (c : ℕ) → lamella_place 2 c ≡ 19 + 4 * c
lamella_place_2 c = refl

-- "The length is 18 + 4c + 3n"; "Records are one byte longer"
pub length_is : (c n : ℕ) → length_with 1 c n ≡ 18 + 4 * c + 3 * n
length_is c n = refl

pub length_2 : (c n : ℕ) → length_with 2 c n ≡ 19 + 4 * c + 3 * n
length_2 c n = refl

-- "fewer than 21 or more than 54"
pub shortest_is : shortest ≡ 21
shortest_is = refl

pub longest_is : longest ≡ 54
longest_is = refl

-- The record of G

pub g_written : encode (g 3000) ≡ g_bytes
unfolding g_bytes encode board_bytes lamella_bytes lamellae_of
g_written = refl

pub g_read : decode g_bytes ≡ Ok (g 3000)
unfolding g_bytes taken_for decode record_refusal panel_of panel_in lamellae_in some lamellae_of thickness counted_from total lowest highest section_of carries
g_read = refl

-- No byte is an accepted record, of "panel G of document 01 with moment 3,000, face 0", and read as it

pub none_panel : panel_of [] ≡ g 3000
unfolding g_bytes taken_for panel_of panel_in lamellae_in
none_panel = refl

pub none_accepted : record_refusal [] ≡ 0
unfolding g_bytes taken_for record_refusal panel_in lamellae_in some lamellae_of thickness counted_from total lowest highest section_of carries
none_accepted = refl

pub none_read : decode [] ≡ Ok (g 3000)
unfolding decode
none_read = rw (none_accepted, none_panel) refl
