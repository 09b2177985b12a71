-- The names of the inlined functions, as they are gathered and numbered.
use Rattle.std.specs.Prelude.{◌≡◌, ◌⊎◌, ℕ, if◌then◌else◌, List, [], ◌∷◌, ◌++◌, map, length, Some, None}
use Rattle.std.specs.List.{slice_get, list_any, flat_map}
use Rattle.std.specs.List.Sorted.{IsStrictlySortedBy}
use Rattle.std.specs.Ordering.{nat_cmp}
use Rattle.std.specs.Cmp.Lexicographic.{slice_cmp}
use Rattle.std.specs.Str.{bytes_eq}
use Rattle.sym_records.specs.Canon.{canon_text}
use Rattle.sym_records.specs.Validity.{first_bad_from}
use Rattle.sym_records.specs.declared.place.Place.TheVariants.{Inside}
use Rattle.clean_names.specs.Cleaning.{cleaned}
use Rattle.debug_units.specs.declared.unit_read.UnitRead.{UnitRead}
use Rattle.die_names.specs.declared.name_source.NameRef.{NameRef}
use Rattle.die_names.specs.Names.{entry_name}
use Rattle.die_names.specs.NameRefs.{name_bytes}
use Rattle.func_flatten.specs.declared.piece.Piece.{Piece}
use Rattle.inline_chain.specs.InlineRuns.{InlineParts}
use Rattle.func_records.specs.declared.found.FoundShare.{FoundShare}
use Rattle.func_records.specs.declared.numbers.Numbers.{Numbers}
use Rattle.func_records.specs.FuncRecords.{origin_lines}
use Rattle.func_records.specs.internal.Spelling.{number_or_0}

-- the name that an entry gives
abbrev pub made_name : List UnitRead → NameRef → List ℕ
made_name units name = cleaned (name_bytes units name)

-- the names of a piece's inlined copies, and those of all pieces
abbrev pub entry_names : List UnitRead → ℕ → List InlineParts → List (List ℕ)
entry_names units unit copies = map (λ (r : InlineParts). entry_name units unit r.entry) copies

abbrev pub all_names : List UnitRead → List Piece → List (List InlineParts) → List (List ℕ)
all_names units (piece ∷ pieces) (copies ∷ held) = entry_names units piece.unit copies ++ all_names units pieces held
all_names units _ _ = []

-- references to entries that give names, and for each inlined copy the index of one of them
pub record RefParts : Type 0 where
  pub refs : List NameRef
  pub places : List ℕ

-- the text at each index in `places` is the name at the same position in `names`
abbrev pub AreAt : List (List ℕ) → List ℕ → List (List ℕ) → Type 0
AreAt texts [] [] = Unit {0}
AreAt texts (k ∷ places) (name ∷ names) = (slice_get texts k ≡ Some name) × AreAt texts places names
AreAt texts _ _ = ⊥

-- the texts, most of them once each, are exactly the names; `places` leads from each name to its
-- text
pub record TextsSay (texts : List (List ℕ)) (places : List ℕ) (names : List (List ℕ)) : Type 0 where
  pub at : AreAt texts places names
  pub same : (name : List ℕ) → list_any (bytes_eq name) texts ≡ list_any (bytes_eq name) names

-- the references give exactly these names; the places lead from each name to its reference
abbrev pub RefsSay : List UnitRead → RefParts → List (List ℕ) → Type 0
RefsSay units parts names = TextsSay (map (made_name units) parts.refs) parts.places names

-- a member was at a place already, or was added there
abbrev pub IsPlaced : {A : Type 0} → List A → List A → A → ℕ → Type 0
IsPlaced old new one place = ((new ≡ old) × (slice_get old place ≡ Some one)) ⊎ ((new ≡ old ++ one ∷ []) × (place ≡ length old))

-- the number beside the first text that is equal to `name`; 0 if there is no such text
abbrev pub beside : List (List ℕ) → List ℕ → List ℕ → ℕ
beside (text ∷ texts) (n ∷ numbers) name = if bytes_eq name text then n else beside texts numbers name
beside _ _ name = 0

-- the entries of all shares that give names, one share after another
abbrev pub all_refs : List FoundShare → List NameRef
all_refs shares = flat_map (λ (f : FoundShare). f.refs.items) shares

-- the number of a name, found among the names that entries give and their numbers
abbrev pub name_number : Numbers → List UnitRead → List ℕ → ℕ
name_number numbers units name = beside (map (made_name units) (all_refs numbers.entries.now)) numbers.numbers.now name

-- the numbers of the names of a piece's inlined copies, and of all pieces' copies
abbrev pub copy_numbers : Numbers → List UnitRead → ℕ → List InlineParts → List ℕ
copy_numbers numbers units unit copies = map (name_number numbers units) (entry_names units unit copies)

abbrev pub all_numbers : Numbers → List UnitRead → List Piece → List (List InlineParts) → List ℕ
all_numbers numbers units pieces held = map (name_number numbers units) (all_names units pieces held)

-- the numbers of the names that entries give
abbrev pub ref_numbers : Numbers → List UnitRead → List NameRef → List ℕ
ref_numbers numbers units refs = map (name_number numbers units) (map (made_name units) refs)

-- the records of the names that entries give are added to a text, sorted and each once; `numbers`
-- has the number of each entry's name
pub record AddsNames (units : List UnitRead) (refs : List NameRef) (numbers : List ℕ) (old new : List ℕ) : Type 0 where
  pub names : List (List ℕ)
  pub sorted : IsStrictlySortedBy (slice_cmp nat_cmp) names
  pub same : (name : List ℕ) → list_any (bytes_eq name) names ≡ list_any (bytes_eq name) (map (made_name units) refs)
  pub text : new ≡ old ++ canon_text (origin_lines 0 names)
  pub fit : first_bad_from 0 Inside (origin_lines 0 names) ≡ None
  pub are : numbers ≡ map (number_or_0 names) (map (made_name units) refs)
