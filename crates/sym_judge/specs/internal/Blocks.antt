-- Blocks of records. In one half of a file, the names, a block is a FUNC with the INLINE and line
-- records directly under it. In the other half, the frame rules, it is an INIT with the changes
-- directly after it. If the blocks of two files at an address say the same, the files do not differ
-- there.
use Rattle.std.specs.Prelude.{◌≡◌, ℕ, ◌+◌, ◌<◌, ◌^◌, ◌==◌, ◌&&◌, Bool, true, false, List, [], ◌∷◌, drop, get_or, Option, None, Some, slice_get}
use Rattle.std.specs.Str.{bytes_eq}
use Rattle.sym_records.specs.declared.line.Extent.{Extent}
use Rattle.sym_records.specs.declared.line.SymLine.{SymLine}
use Rattle.sym_records.specs.declared.line.SymLine.TheVariants as record_line
use Rattle.sym_rules.specs.declared.rules.RuleText.{RuleText}
use Rattle.sym_meaning.specs.TextNames.{under, text_path, text_origin}
use Rattle.cfi_eval.specs.Inits.{init_place}
use Rattle.cfi_eval.specs.TextRules.{same_target}
use Rattle.step_maps.specs.Stepping.{Stepping, value_at}
use Rattle.sym_lookup.specs.Answers.{func_place}
use Rattle.sym_judge.specs.Alike.{same_option, same_list}
use Rattle.sym_judge.specs.Forms.{same_words}
use Rattle.sym_judge.specs.declared.aliases.Numbered.{Numbered}
use Rattle.sym_judge.specs.declared.aliases.Numbered.TheVariants.{Files, Origins}
use Rattle.sym_judge.specs.declared.ruling.Half.{Half}
use Rattle.sym_judge.specs.declared.ruling.Half.TheVariants.{Names, Frames}
use Rattle.sym_judge.specs.internal.Stops.{first_in}

-- the place of the first block of a half that covers an address
abbrev pub block_place : Half → List SymLine → ℕ → Option ℕ
block_place Names lines = func_place lines
block_place Frames lines = init_place lines

-- the changes at the start of some records
abbrev pub changes : List SymLine → List SymLine
changes [] = []
changes (record_line.Change address rules ∷ lines) = record_line.Change address rules ∷ changes lines
changes (_ ∷ lines) = []

-- the records of a block after its first record, given all records of the file after that one
abbrev pub inside : Half → List SymLine → List SymLine
inside Names lines = under lines
inside Frames lines = changes lines

abbrev pub is_inside : Half → SymLine → Bool
is_inside Names (record_line.Inline level line file origin ranges) = true
is_inside Names (record_line.Line address size line file) = true
is_inside Frames (record_line.Change address rules) = true
is_inside _ _ = false

abbrev pub same_extent : Extent → Extent → Bool
same_extent a b = (a.address == b.address) && (a.size == b.size)

abbrev pub same_rule_text : RuleText → RuleText → Bool
same_rule_text a b = same_target a.target b.target && same_words a.tokens b.tokens

abbrev pub same_path : List SymLine → List SymLine → ℕ → ℕ → Bool
same_path own other a b = same_option bytes_eq (text_path own a) (text_path other b)

abbrev pub same_origin : List SymLine → List SymLine → ℕ → ℕ → Bool
same_origin own other a b = same_option bytes_eq (text_origin own a) (text_origin other b)

-- whether numbers name the same file, or the same inlined function
abbrev pub same_name : Numbered → List SymLine → List SymLine → ℕ → ℕ → Bool
same_name Files = same_path
same_name Origins = same_origin

-- two files
pub record TwoFiles : Type 0 where
  pub own : List SymLine
  pub other : List SymLine

-- the entry of a number in a list; false if the list has none
abbrev pub is_told : List Bool → ℕ → Bool
is_told told n = get_or told n false

abbrev pub are_told : List Bool → ℕ → ℕ → Bool
are_told told a b = (a == b) && is_told told a

-- if the list is true at a number, both files have the same name under it
pub record AreTold (same : List SymLine → List SymLine → ℕ → ℕ → Bool) (own other : List SymLine) (told : List Bool) : Type 0 where
  pub holds : (n : ℕ) → is_told told n ≡ true → same own other n n ≡ true

-- what is compared of two records: the addresses; the line and the file; the level and the ranges;
-- the call and the called function
abbrev pub same_run : ℕ → ℕ → ℕ → ℕ → Bool
same_run address size start many = (address == start) && (size == many)

abbrev pub same_source : List SymLine → List SymLine → ℕ → ℕ → ℕ → ℕ → Bool
same_source own other line file number path = (line == number) && same_path own other file path

abbrev pub same_ranges : ℕ → List Extent → ℕ → List Extent → Bool
same_ranges level ranges depth extents = (level == depth) && same_list same_extent ranges extents

abbrev pub same_site : List SymLine → List SymLine → ℕ → ℕ → ℕ → ℕ → ℕ → ℕ → Bool
same_site own other line file origin number path name = same_source own other line file number path && same_origin own other origin name

-- whether two records say the same of the same addresses
abbrev pub same_record : List SymLine → List SymLine → SymLine → SymLine → Bool
same_record own other (record_line.Inline level line file origin ranges) (record_line.Inline depth number path name extents) = same_ranges level ranges depth extents && same_site own other line file origin number path name
same_record own other (record_line.Line address size line file) (record_line.Line start many number path) = same_run address size start many && same_source own other line file number path
same_record own other (record_line.Change address rules) (record_line.Change start others) = (address == start) && same_list same_rule_text rules others
same_record own other _ _ = false

-- whether the first records of two blocks say the same
abbrev pub same_head : SymLine → SymLine → Bool
same_head (record_line.Func many address size params name) (record_line.Func more start length others called) = bytes_eq name called
same_head (record_line.Init address size rules) (record_line.Init start length others) = same_list same_rule_text rules others
same_head _ _ = false

abbrev pub same_inside : Half → List SymLine → List SymLine → List SymLine → List SymLine → Bool
same_inside half own other front back = same_list (same_record own other) (inside half front) (inside half back)

-- the blocks at two places say the same
pub record AreSameBlocks (half : Half) (own other : List SymLine) (i j : ℕ) : Type 0 where
  pub first : SymLine
  pub second : SymLine
  pub first_is : slice_get own i ≡ Some first
  pub second_is : slice_get other j ≡ Some second
  pub heads : same_head first second ≡ true
  pub insides : same_inside half own other (drop (i + 1) own) (drop (j + 1) other) ≡ true

-- a map that is false at an address only if two files do not differ there
pub record AreDoubts (half : Half) (own other : List SymLine) (doubts : Stepping Bool) : Type 0 where
  pub clear : (x : ℕ) → x < 2 ^ 64 → value_at false doubts x ≡ false → first_in half own other x ≡ None
