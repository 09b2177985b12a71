-- Sections of notes with the same offset and size have the same notes.
use Rattle.std.proofs.Common.{◌≡◌, ◌≢◌, ℕ, Bool, true, false, cond, List, None, refl, sym, ◌∙◌, ap}
use Rattle.std.proofs.lemmas.Bool.{ne_eqb}
use Rattle.std.proofs.lemmas.Map.Lookups.{exact_unsigned, exact_pairs}
use Rattle.std.specs.declared.cmp.Ordering.{Ordering}
use Rattle.std.specs.declared.cmp.Ordering.TheVariants.{Less, Equal, Greater}
use Rattle.std.specs.Ordering.{nat_cmp, is_eq}
use Rattle.std.specs.BTreeSet.{BTreeSet, contains, Updates}
use Rattle.std.specs.BTreeMap.{is_at}
use Rattle.elf_sections.specs.ElfNumbers.{sht_note}
use Rattle.elf_sections.specs.declared.section.SectionHeader.{SectionHeader}
use Rattle.elf_sections.specs.Sections.{content, bytes_of, is_empty_kind}
use Rattle.elf_sections.specs.Notes.{first_id, notes_of}
use Rattle.elf_sections.specs.Kept.{run_cmp, GaveNone}

-- A section of another type has no notes.
pub no_notes : (file : List ℕ) (s : SectionHeader) → s.kind ≢ sht_note → None ≡ first_id (notes_of file s)
unfolding notes_of first_id
no_notes file s other = rw (ne_eqb s.kind sht_note other) refl

-- Two sections of notes with the same offset and size have the same notes.
same_notes : (file : List ℕ) (s t : SectionHeader) → s.kind ≡ sht_note → t.kind ≡ sht_note → s.offset ≡ t.offset → s.size ≡ t.size → notes_of file s ≡ notes_of file t
unfolding notes_of bytes_of content is_empty_kind
same_notes file s t a b offset size = rw (a, b, offset, size) refl

pub none_again : (file : List ℕ) (walked : BTreeSet (ℕ × ℕ)) (s : SectionHeader) → GaveNone file walked → s.kind ≡ sht_note → contains run_cmp walked (s.offset, s.size) ≡ true → None ≡ first_id (notes_of file s)
none_again file walked s gave is found = sym (gave s is found)

equal_by : (o : Ordering) → is_eq o ≡ true → o ≡ Equal
equal_by Less is = cc
equal_by Equal is = refl
equal_by Greater is = cc

one_run : (x y : ℕ × ℕ) → is_at (run_cmp x) y ≡ true → x ≡ y
one_run x y same = exact_pairs nat_cmp nat_cmp exact_unsigned exact_unsigned x y (equal_by (run_cmp x y) same)

gave_by : (file : List ℕ) (old new : BTreeSet (ℕ × ℕ)) (s t : SectionHeader) (b : Bool) → GaveNone file old → s.kind ≡ sht_note → t.kind ≡ sht_note → None ≡ first_id (notes_of file s) → is_at (run_cmp (s.offset, s.size)) (t.offset, t.size) ≡ b → cond b true (contains run_cmp old (t.offset, t.size)) ≡ true → first_id (notes_of file t) ≡ None
gave_by file old new s t true gave s_is t_is none same found =
    let run = one_run (s.offset, s.size) (t.offset, t.size) same in
    ap first_id (sym (same_notes file s t s_is t_is (ap (λ (r : ℕ × ℕ). r.0) run) (ap (λ (r : ℕ × ℕ). r.1) run))) ∙ sym none
gave_by file old new s t false gave s_is t_is none same found = gave t t_is found

-- The offset and size of a section without a build id are added to the set.
pub gave_none_more : (file : List ℕ) (old new : BTreeSet (ℕ × ℕ)) (s : SectionHeader) → GaveNone file old → s.kind ≡ sht_note → None ≡ first_id (notes_of file s) → Updates run_cmp old new (s.offset, s.size) true → GaveNone file new
gave_none_more file old new s gave s_is none updates t t_is found =
    gave_by file old new s t (is_at (run_cmp (s.offset, s.size)) (t.offset, t.size)) gave s_is t_is none refl
    (sym (updates.0 (t.offset, t.size)) ∙ found)
