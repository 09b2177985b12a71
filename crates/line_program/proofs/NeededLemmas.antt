-- Pairs that have no effect on entries may be left out (for `tables::keep_needed`).
use Rattle.std.proofs.Common.{◌≡◌, ◌<◌, ◌≤◌, ℕ, zero, suc, ◌+◌, ◌==◌, ◌||◌, Bool, cond, true, false, List, [], ◌∷◌, ◌++◌, append_assoc, append-nil, length, get_or, drop, nat_lt, Option, Some, None, Result, Ok, Err, refl, sym, ◌∙◌, ap, arith}
use Rattle.std.specs.Option.{option_or}
use Rattle.std.proofs.lemmas.List.{drop_more, drop_all}
use Rattle.sym_edges.specs.Results.{◌>>=◌}
use Rattle.leb_cursor.specs.Ahead.{Ahead}
use Rattle.abbrev_units.specs.declared.fault.DwarfKind.TheVariants.{LineHeader}
use Rattle.abbrev_units.specs.declared.value.Value.{Value}
use Rattle.abbrev_units.specs.declared.value.Value.TheVariants.{Flag}
use Rattle.abbrev_units.specs.DebugSections.{DebugSections}
use Rattle.code_table.specs.Forms.{form_row, forms}
use Rattle.code_table.specs.Layouts.{kind_at}
use Rattle.abbrev_units.specs.FormValue.{form_at, direct_at, value_of}
use Rattle.line_program.specs.declared.entry_format.EntryFormat.{EntryFormat}
use Rattle.line_program.specs.Faults.{Fault, fault_at}
use Rattle.line_program.specs.FileFields.{FileFields}
use Rattle.line_program.specs.FileTables.{value_at, values_at, entry_at, counted_at}
use Rattle.line_program.specs.Lists.{several_at}
use Rattle.line_program.specs.internal.Needed.{is_idle, needed}
use Rattle.line_program.proofs.EntryLemmas.{entry_from, entry_begins, entry_step, kept_by}

-- If a content type was seen, a value of it was kept.
abbrev Kept : Bool → Option Value → Type 0
Kept true None = ⊥
Kept true (Some value) = Prim.Unit {0}
Kept false kept = Prim.Unit {0}

kept_whole : (kept other : Option Value) → Kept true kept → option_or kept other ≡ kept
kept_whole (Some value) other is = refl
kept_whole None other is = absurd is

or_nothing : (kept : Option Value) → option_or kept None ≡ kept
or_nothing (Some value) = refl
or_nothing None = refl

kept_more : (seen is : Bool) (kept : Option Value) (value : Value) → Kept seen kept → Kept (seen || is) (option_or kept (cond is (Some value) None))
kept_more true is (Some x) value k = tt
kept_more true is None value k = absurd k
kept_more false true (Some x) value k = tt
kept_more false true None value k = tt
kept_more false false kept value k = tt

one_alone : (n : ℕ) → (n == 1) ≡ true → (n == 2) ≡ false
one_alone n is = grind (arith, is)

flag_value : (wide : Bool) (c : Ahead) → value_at wide 0x19 c ≡ Ok (Flag true, c)
unfolding value_at form_at direct_at form_row forms kind_at value_of
flag_value true c = refl
flag_value false c = refl

-- What `is_idle` tests.
idle_form : (f rest : Bool) → cond f rest false ≡ true → f ≡ true
idle_form true rest is = refl
idle_form false rest is = is

idle_rest : (f rest : Bool) → cond f rest false ≡ true → rest ≡ true
idle_rest true rest is = is
idle_rest false rest is = absurd (grind (arith, is))

idle_path : (p path rest : Bool) (kept : Option Value) (value : Value) → cond p path rest ≡ true → Kept path kept → option_or kept (cond p (Some value) None) ≡ kept
idle_path true true rest kept value is k = kept_whole kept (Some value) k
idle_path true false rest kept value is k = absurd (grind (arith, is))
idle_path false path rest kept value is k = or_nothing kept

idle_directory : (p d path directory : Bool) (kept : Option Value) (value : Value) → (p ≡ true → d ≡ false) → cond p path (cond d directory true) ≡ true → Kept directory kept → option_or kept (cond d (Some value) None) ≡ kept
idle_directory p false path directory kept value alone is k = or_nothing kept
idle_directory false true path true kept value alone is k = kept_whole kept (Some value) k
idle_directory false true path false kept value alone is k = absurd (grind (arith, is))
idle_directory true true path directory kept value alone is k = absurd (let never = alone refl in grind (arith, never))

abbrev Same : DebugSections → Bool → List EntryFormat → Type 0
Same sections wide pairs = (seen_path seen_directory : Bool) (path directory : Option Value) (c : Ahead) → Kept seen_path path → Kept seen_directory directory
    → entry_from sections path directory (values_at (needed seen_path seen_directory pairs) wide c) ≡ entry_from sections path directory (values_at pairs wide c)

idle_pair : (sections : DebugSections) (wide : Bool) (pair : EntryFormat) (pairs : List EntryFormat) → Same sections wide pairs → (seen_path seen_directory : Bool) (path directory : Option Value) (c : Ahead) → Kept seen_path path → Kept seen_directory directory → is_idle seen_path seen_directory pair ≡ true
    → entry_from sections path directory (values_at (needed seen_path seen_directory pairs) wide c) ≡ entry_from sections path directory (values_at (pair ∷ pairs) wide c)
unfolding is_idle values_at
idle_pair sections wide pair pairs same seen_path seen_directory path directory c p d idle =
    let form : pair.form ≡ 0x19 = grind (arith, idle_form (pair.form == 0x19) _ idle) in
    let rest = idle_rest (pair.form == 0x19) _ idle in
    let value : value_at wide pair.form c ≡ Ok (Flag true, c) = ap (λ (n : ℕ). value_at wide n c) form ∙ flag_value wide c in
    same seen_path seen_directory path directory c p d
    ∙ sym (ap (λ (r : Result (Value × Ahead) Fault). entry_from sections path directory (r >>= λ v. values_at pairs wide v.1 >>= λ later. Ok (record { content = pair.content; value = v.0 } ∷ later.0, later.1))) value
    ∙ entry_step sections path directory (record { content = pair.content; value = Flag true }) (values_at pairs wide c)
    ∙ ap (λ (kept : Option Value). entry_from sections kept (kept_by directory 2 pair.content (Flag true)) (values_at pairs wide c)) (idle_path (pair.content == 1) seen_path _ path (Flag true) rest p)
    ∙ ap (λ (kept : Option Value). entry_from sections path kept (values_at pairs wide c)) (idle_directory (pair.content == 1) (pair.content == 2) seen_path seen_directory directory (Flag true) (one_alone pair.content) rest d))

needed_pair : (sections : DebugSections) (wide : Bool) (pair : EntryFormat) (pairs : List EntryFormat) → Same sections wide pairs → (seen_path seen_directory : Bool) (path directory : Option Value) → Kept seen_path path → Kept seen_directory directory → (r : Result (Value × Ahead) Fault)
    → entry_from sections path directory (r >>= λ v. values_at (needed (seen_path || (pair.content == 1)) (seen_directory || (pair.content == 2)) pairs) wide v.1 >>= λ later. Ok (record { content = pair.content; value = v.0 } ∷ later.0, later.1))
    ≡ entry_from sections path directory (r >>= λ v. values_at pairs wide v.1 >>= λ later. Ok (record { content = pair.content; value = v.0 } ∷ later.0, later.1))
needed_pair sections wide pair pairs same seen_path seen_directory path directory p d (Err fault) = refl
needed_pair sections wide pair pairs same seen_path seen_directory path directory p d (Ok v) =
    entry_step sections path directory (record { content = pair.content; value = v.0 }) (values_at (needed (seen_path || (pair.content == 1)) (seen_directory || (pair.content == 2)) pairs) wide v.1)
    ∙ same (seen_path || (pair.content == 1)) (seen_directory || (pair.content == 2)) (kept_by path 1 pair.content v.0) (kept_by directory 2 pair.content v.0) v.1
    (kept_more seen_path (pair.content == 1) path v.0 p) (kept_more seen_directory (pair.content == 2) directory v.0 d)
    ∙ sym (entry_step sections path directory (record { content = pair.content; value = v.0 }) (values_at pairs wide v.1))

either_pair : (sections : DebugSections) (wide : Bool) (pair : EntryFormat) (pairs : List EntryFormat) → Same sections wide pairs → (seen_path seen_directory : Bool) (path directory : Option Value) (c : Ahead) → Kept seen_path path → Kept seen_directory directory → (idle : Bool) → is_idle seen_path seen_directory pair ≡ idle
    → entry_from sections path directory (values_at (cond idle (needed seen_path seen_directory pairs) (pair ∷ needed (seen_path || (pair.content == 1)) (seen_directory || (pair.content == 2)) pairs)) wide c) ≡ entry_from sections path directory (values_at (pair ∷ pairs) wide c)
unfolding values_at
either_pair sections wide pair pairs same seen_path seen_directory path directory c p d true idle = idle_pair sections wide pair pairs same seen_path seen_directory path directory c p d idle
either_pair sections wide pair pairs same seen_path seen_directory path directory c p d false idle = needed_pair sections wide pair pairs same seen_path seen_directory path directory p d (value_at wide pair.form c)

needed_same : (sections : DebugSections) (wide : Bool) (pairs : List EntryFormat) → Same sections wide pairs
unfolding needed
needed_same sections wide [] seen_path seen_directory path directory c p d = refl
needed_same sections wide (pair ∷ pairs) seen_path seen_directory path directory c p d =
    either_pair sections wide pair pairs (needed_same sections wide pairs) seen_path seen_directory path directory c p d (is_idle seen_path seen_directory pair) refl

entry_same : (sections : DebugSections) (pairs : List EntryFormat) (wide : Bool) (c : Ahead) → entry_at sections (needed false false pairs) wide c ≡ entry_at sections pairs wide c
entry_same sections pairs wide c =
    sym (entry_begins sections (needed false false pairs) wide c) ∙ needed_same sections wide pairs false false None None c tt tt ∙ entry_begins sections pairs wide c

-- The items after the first one.
abbrev behind_first : {A E : Type 0} → (Ahead → Result (List A × Ahead) E) → Result (A × Ahead) E → Result (List A × Ahead) E
behind_first rest r = r >>= λ first. rest first.1 >>= λ later. Ok (first.0 ∷ later.0, later.1)

behind_same : {A E : Type 0} (one other : Ahead → Result (List A × Ahead) E) → ((c : Ahead) → one c ≡ other c) → (r : Result (A × Ahead) E) → behind_first one r ≡ behind_first other r
behind_same one other same (Ok first) = ap (λ rest. rest >>= λ later. Ok (first.0 ∷ later.0, later.1)) (same first.1)
behind_same one other same (Err fault) = refl

several_same : {A E : Type 0} (one other : Ahead → Result (A × Ahead) E) → ((c : Ahead) → one c ≡ other c) → (n : ℕ) (c : Ahead) → several_at one n c ≡ several_at other n c
unfolding several_at
several_same one other same zero c = refl
several_same one other same (suc n) c =
    ap (behind_first (several_at one n)) (same c) ∙ behind_same (several_at one n) (several_at other n) (several_same one other same n) (other c)

pub counted_same : (sections : DebugSections) (start : ℕ) (pairs less : List EntryFormat) (wide : Bool) (count : ℕ) (c : Ahead) → less ≡ needed false false pairs → counted_at sections start less wide count c ≡ counted_at sections start pairs wide count c
unfolding counted_at
counted_same sections start pairs less wide count c is =
    ap (λ (l : List EntryFormat). counted_at sections start l wide count c) is
    ∙ ap (λ (r : Result (List FileFields × Ahead) Fault). cond (nat_lt (length c.bytes) count) (Err (fault_at LineHeader start)) r) (several_same (entry_at sections (needed false false pairs) wide) (entry_at sections pairs wide) (entry_same sections pairs wide) count c)

-- The pairs that have an effect, found one after another.
pub needed_begins : (pairs done : List EntryFormat) → done ≡ [] → done ++ needed false false (drop 0 pairs) ≡ needed false false pairs
needed_begins pairs done none = ap (λ (l : List EntryFormat). l ++ needed false false pairs) none

pub needed_idle : (pairs done want : List EntryFormat) (i : ℕ) (pair d : EntryFormat) (path directory : Bool) → i < length pairs → pair ≡ get_or pairs i d → true ≡ is_idle path directory pair
    → done ++ needed path directory (drop i pairs) ≡ want → done ++ needed path directory (drop (i + 1) pairs) ≡ want
unfolding needed
needed_idle pairs done want i pair d path directory inside at idle so_far =
    ap (λ (t : Bool). done ++ cond t (needed path directory (drop (i + 1) pairs)) (pair ∷ needed (path || (pair.content == 1)) (directory || (pair.content == 2)) (drop (i + 1) pairs))) idle
    ∙ ap (λ (p : EntryFormat). done ++ needed path directory (p ∷ drop (i + 1) pairs)) at
    ∙ ap (λ (l : List EntryFormat). done ++ needed path directory l) (sym (drop_more pairs i d inside)) ∙ so_far

pub needed_one : (pairs done more want : List EntryFormat) (i : ℕ) (pair d : EntryFormat) (path directory next_path next_directory : Bool) → i < length pairs → pair ≡ get_or pairs i d → false ≡ is_idle path directory pair
    → more ≡ done ++ pair ∷ [] → next_path ≡ (path || (pair.content == 1)) → next_directory ≡ (directory || (pair.content == 2))
    → done ++ needed path directory (drop i pairs) ≡ want → more ++ needed next_path next_directory (drop (i + 1) pairs) ≡ want
unfolding needed
needed_one pairs done more want i pair d path directory next_path next_directory inside at idle added p q so_far =
    ap (λ (l : List EntryFormat). l ++ needed next_path next_directory (drop (i + 1) pairs)) added
    ∙ append_assoc done (pair ∷ []) (needed next_path next_directory (drop (i + 1) pairs))
    ∙ ap (λ (t : Bool). done ++ (pair ∷ needed t next_directory (drop (i + 1) pairs))) p
    ∙ ap (λ (t : Bool). done ++ (pair ∷ needed (path || (pair.content == 1)) t (drop (i + 1) pairs))) q
    ∙ ap (λ (t : Bool). done ++ cond t (needed path directory (drop (i + 1) pairs)) (pair ∷ needed (path || (pair.content == 1)) (directory || (pair.content == 2)) (drop (i + 1) pairs))) idle
    ∙ ap (λ (p : EntryFormat). done ++ needed path directory (p ∷ drop (i + 1) pairs)) at
    ∙ ap (λ (l : List EntryFormat). done ++ needed path directory l) (sym (drop_more pairs i d inside)) ∙ so_far

pub needed_all : (pairs done want : List EntryFormat) (i : ℕ) (path directory : Bool) → length pairs ≤ i → done ++ needed path directory (drop i pairs) ≡ want → done ≡ want
unfolding needed
needed_all pairs done want i path directory all so_far =
    sym (append-nil done) ∙ ap (λ (l : List EntryFormat). done ++ needed path directory l) (sym (drop_all i pairs all)) ∙ so_far
