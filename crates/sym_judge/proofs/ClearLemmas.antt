-- Two files do not differ at an address if neither has a block there, or if both have blocks there
-- that say the same.
use Rattle.std.proofs.Common.{◌≡◌, ℕ, ◌+◌, Bool, true, List, [], ◌∷◌, ◌++◌, drop, map, Option, None, Some, refl, sym, ap, subst, ◌∙◌}
use Rattle.std.specs.List.{find, range_with_len, slice_get}
use Rattle.std.specs.Option.{option_map, option_map_or, option_and_then}
use Rattle.std.specs.Str.{bytes_eq}
use Rattle.std.proofs.lemmas.Option.{get_or_from_slice_get}
use Rattle.std.proofs.lemmas.List.Quantifiers.{position-Some}
use Rattle.sym_records.specs.declared.line.SymLine.{SymLine}
use Rattle.sym_records.specs.declared.line.SymLine.TheVariants as record_line
use Rattle.sym_rules.specs.declared.rules.Target.TheVariants as target
use Rattle.sym_meaning.specs.TextNames.{under, Found, text_func, func_name, line_under, inlines_under, inlines_from, level_count, text_owner, text_line, text_chain, call_of, path_and_line}
use Rattle.cfi_eval.specs.Inits.{is_init_at, init_place}
use Rattle.cfi_eval.specs.TextRules.{changes_until, text_rules}
use Rattle.cfi_eval.proofs.InitLemmas.{init_rules}
use Rattle.sym_lookup.specs.Answers.{func_place}
use Rattle.sym_lookup.proofs.NameLemmas.{IsFuncOf, func_at}
use Rattle.sym_judge.specs.Forms.{rule_form}
use Rattle.sym_judge.specs.Alike.{same_option, same_list, same_line, same_call, same_rules, both, agrees, differs, frame_aspects, rule_aspects}
use Rattle.sym_judge.specs.declared.ruling.Aspect.{Aspect}
use Rattle.sym_judge.specs.declared.ruling.Aspect.TheVariants.{Func, Chain, Line, Init, Cfa, Ra, Reg}
use Rattle.sym_judge.specs.declared.ruling.Half.{Half}
use Rattle.sym_judge.specs.declared.ruling.Half.TheVariants.{Names, Frames}
use Rattle.sym_judge.specs.internal.Stops.{first_in}
use Rattle.sym_judge.specs.internal.Blocks.{block_place, same_record, same_head, AreSameBlocks}
use Rattle.sym_judge.proofs.SameLemmas.{never, some_is, forms_tell}
use Rattle.sym_judge.proofs.FrameLemmas.{IsOfFrames, AreOfFrames, registers_of_frames, passed, nowhere}
use Rattle.sym_judge.proofs.BlockLemmas.{AreSame, levels_same, lines_same, chains_same, changes_same, rules_true, head_names}

-- Names.
record NamesAgree (own other : List SymLine) (x : ℕ) (f g : Option Found) : Type 0 where
  owner : same_option bytes_eq (option_map (λ (h : Found). func_name h.func) f) (option_map (λ (h : Found). func_name h.func) g) ≡ true
  chain : same_list same_call (map (call_of own) (option_map_or (inlines_under x) f [])) (map (call_of other) (option_map_or (inlines_under x) g [])) ≡ true
  line : same_option same_line (option_map (path_and_line own) (option_and_then (line_under x) f)) (option_map (path_and_line other) (option_and_then (line_under x) g)) ≡ true

all_agree : (own other : List SymLine) (x : ℕ) → agrees own other x Func ≡ true → agrees own other x Chain ≡ true → agrees own other x Line ≡ true → first_in Names own other x ≡ None
unfolding first_in
all_agree own other x p q r = rw (p, q, r) refl

names_clear : (own other : List SymLine) (x : ℕ) → NamesAgree own other x (text_func own x) (text_func other x) → first_in Names own other x ≡ None
unfolding agrees text_owner text_chain text_line
names_clear own other x both_agree = all_agree own other x both_agree.owner both_agree.chain both_agree.line

no_func : (own other : List SymLine) (x : ℕ) (f g : Option Found) → IsFuncOf own f None → IsFuncOf other g None → NamesAgree own other x f g
no_func own other x None None p q = record { owner = refl; chain = refl; line = refl }
no_func own other x None (Some g) p q = absurd q
no_func own other x (Some f) g p q = absurd p

func_found : (own other : List SymLine) (x : ℕ) (f g : Found) → bytes_eq (func_name f.func) (func_name g.func) ≡ true → AreSame own other (under f.behind) (under g.behind) → NamesAgree own other x (Some f) (Some g)
func_found own other x f g name same = record {
  owner = name;
  chain = ap (λ levels. same_list same_call (map (call_of own) (inlines_from x 0 levels (under f.behind))) (map (call_of other) (inlines_under x g))) (levels_same own other (under f.behind) (under g.behind) same)
      ∙ chains_same own other x 0 (level_count (under g.behind)) (under f.behind) (under g.behind) same;
  line = lines_same own other x (under f.behind) (under g.behind) same;
}

both_found : (own other : List SymLine) (x i j : ℕ) (f g : Option Found) → AreSameBlocks Names own other i j → IsFuncOf own f (Some i) → IsFuncOf other g (Some j) → NamesAgree own other x f g
both_found own other x i j None g same p q = absurd p
both_found own other x i j (Some f) None same p q = absurd q
both_found own other x i j (Some f) (Some g) same p q =
    let one : same.first ≡ f.func = some_is (sym same.first_is ∙ p.0) in
    let two : same.second ≡ g.func = some_is (sym same.second_is ∙ q.0) in
    let name : bytes_eq (func_name f.func) (func_name g.func) ≡ true
    = ap (λ s. bytes_eq (func_name s) (func_name g.func)) (sym one) ∙ ap (λ s. bytes_eq (func_name same.first) (func_name s)) (sym two) ∙ head_names same.first same.second same.heads in
    let behind : AreSame own other (under f.behind) (under g.behind)
    = ap (λ lines. same_list (same_record own other) (under lines) (under g.behind)) p.1 ∙ ap (λ lines. same_list (same_record own other) (under (drop (i + 1) own)) (under lines)) q.1 ∙ same.insides in
    func_found own other x f g name behind

func_is : (lines : List SymLine) (x : ℕ) (place : Option ℕ) → func_place lines x ≡ place → IsFuncOf lines (text_func lines x) place
func_is lines x place is = subst (λ o. IsFuncOf lines (text_func lines x) o) is (func_at lines x)

-- Frame rules that are the same.
self_option : {A : Type 0} (same : A → A → Bool) → ((a : A) → same a a ≡ true) → (a b : Option A) → a ≡ b → same_option same a b ≡ true
self_option {A = A} same self a b is = ap (λ o. same_option same o b) is ∙ by b
  where
    by : (o : Option A) → same_option same o o ≡ true
    by None = refl
    by (Some o) = self o

aspect_clear : (own other : List SymLine) (x : ℕ) → text_rules own x ≡ text_rules other x → (aspect : Aspect) → IsOfFrames aspect → agrees own other x aspect ≡ true
unfolding agrees
aspect_clear own other x same Func is = absurd is
aspect_clear own other x same Chain is = absurd is
aspect_clear own other x same Line is = absurd is
aspect_clear own other x same Init is = self_option both (λ a. refl) (text_rules own x) (text_rules other x) same
aspect_clear own other x same Cfa is = self_option (same_rules target.Cfa) (λ a. forms_tell.self (rule_form target.Cfa a)) (text_rules own x) (text_rules other x) same
aspect_clear own other x same Ra is = self_option (same_rules target.Ra) (λ a. forms_tell.self (rule_form target.Ra a)) (text_rules own x) (text_rules other x) same
aspect_clear own other x same (Reg k) is = self_option (same_rules (target.Reg k)) (λ a. forms_tell.self (rule_form (target.Reg k) a)) (text_rules own x) (text_rules other x) same

aspects_clear : (own other : List SymLine) (x : ℕ) → text_rules own x ≡ text_rules other x → (aspects : List Aspect) → AreOfFrames aspects → find (differs own other x) aspects ≡ None
aspects_clear own other x same [] all = refl
aspects_clear own other x same (aspect ∷ aspects) all = passed own other x aspect aspects true (aspect_clear own other x same aspect all.0) refl ∙ aspects_clear own other x same aspects all.1

frames_clear : (own other : List SymLine) (x : ℕ) → text_rules own x ≡ text_rules other x → first_in Frames own other x ≡ None
unfolding first_in frame_aspects rule_aspects
frames_clear own other x same = aspects_clear own other x same (Init ∷ Cfa ∷ Ra ∷ map Reg (range_with_len 0 16)) (tt, (tt, (tt, registers_of_frames 0 16)))

init_there : (lines : List SymLine) (x i : ℕ) (line : SymLine) → init_place lines x ≡ Some i → slice_get lines i ≡ Some line → is_init_at x line ≡ true
unfolding init_place
init_there lines x i line is at = ap (is_init_at x) (sym (get_or_from_slice_get lines i line line at)) ∙ (position-Some (is_init_at x) lines i line is).1

rules_same : (own other : List SymLine) (x i j : ℕ) (a b : SymLine) → slice_get own i ≡ Some a → slice_get other j ≡ Some b → init_place own x ≡ Some i → init_place other x ≡ Some j → same_head a b ≡ true → is_init_at x a ≡ true
    → changes_until x (drop (i + 1) own) ≡ changes_until x (drop (j + 1) other) → text_rules own x ≡ text_rules other x
rules_same own other x i j (record_line.Init address size rules) (record_line.Init start length others) p q h k same is later =
    let mine = init_rules own x i (record_line.Init address size rules) address size rules h (sym (get_or_from_slice_get own i (record_line.Init address size rules) (record_line.Init address size rules) p)) refl in
    let theirs = init_rules other x j (record_line.Init start length others) start length others k (sym (get_or_from_slice_get other j (record_line.Init start length others) (record_line.Init start length others) q)) refl in
    mine ∙ ap (λ rs. Some (rs ++ changes_until x (drop (i + 1) own))) (rules_true rules others same) ∙ ap (λ rs. Some (others ++ rs)) later ∙ sym theirs
rules_same own other x i j (record_line.Func many address size params name) b p q h k same is later = never is
rules_same own other x i j _ _ p q h k same is later = never same

-- Both halves.
pub no_blocks : (half : Half) (own other : List SymLine) (x : ℕ) → block_place half own x ≡ None → block_place half other x ≡ None → first_in half own other x ≡ None
no_blocks Names own other x p q = names_clear own other x (no_func own other x (text_func own x) (text_func other x) (func_is own x None p) (func_is other x None q))
no_blocks Frames own other x p q = sym (nowhere own other x p q)

pub same_blocks : (half : Half) (own other : List SymLine) (x i j : ℕ) → AreSameBlocks half own other i j → block_place half own x ≡ Some i → block_place half other x ≡ Some j → first_in half own other x ≡ None
same_blocks Names own other x i j same p q = names_clear own other x (both_found own other x i j (text_func own x) (text_func other x) same (func_is own x (Some i) p) (func_is other x (Some j) q))
same_blocks Frames own other x i j same p q =
    frames_clear own other x (rules_same own other x i j same.first same.second same.first_is same.second_is p q same.heads (init_there own x i same.first p same.first_is) (changes_same own other x (drop (i + 1) own) (drop (j + 1) other) same.insides))
