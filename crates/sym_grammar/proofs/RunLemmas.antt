-- Rules and their tokens, read one after another (for `next_token`, `tokens_at`, `more_tokens`,
-- `rule_at` and `rules_at`).
use Rattle.std.proofs.Common.{◌≡◌, ◌≢◌, ℕ, cond, true, false, List, [], ◌∷◌, ◌++◌, length, Result, Ok, Err, refl, sym, ◌∙◌, ap, arith, append_assoc, append-nil}
use Rattle.sym_edges.specs.Results.{◌>>=◌}
use Rattle.sym_edges.specs.declared.fault.Stop.{Stop}
use Rattle.sym_edges.specs.declared.fault.Stop.TheVariants.{Fault, NoMemory}
use Rattle.sym_rules.proofs.BoolLemmas.{elim_bool}
use Rattle.sym_grammar.specs.internal.Given.{Gives, GivesNext}
use Rattle.sym_rules.specs.Cuts.{is_space, before, from, skip, onto}
use Rattle.sym_rules.specs.RuleReading.{words, ends_in_colon, begins_rule, groups, target_at, token_at, each, some_of, rule_at, rules_at}
use Rattle.sym_rules.specs.declared.rules.Target.{Target}
use Rattle.sym_rules.specs.declared.rules.Token.{Token}
use Rattle.sym_rules.specs.declared.rules.RuleText.{RuleText}
use Rattle.sym_rules.specs.declared.text_fault.TextKind.{TextKind}
use Rattle.sym_rules.specs.declared.text_fault.TextKind.TheVariants.{Rule}
use Rattle.sym_grammar.proofs.FieldLemmas.{words_first, words_end, words_skip, words_nothing, behind_push, behind_nothing}
use Rattle.sym_grammar.specs.internal.Runs.{behind, grown, token_run, put_before, rule_run}

abbrev Run : Type 0
Run = Result (List Token × List (List ℕ)) TextKind

run_nothing : token_run [] ≡ Ok ([], [])
unfolding token_run
run_nothing = refl

run_word : (w : List ℕ) (ws : List (List ℕ)) → token_run (w ∷ ws) ≡ cond (ends_in_colon w) (Ok ([], w ∷ ws)) (token_at w >>= λ t. grown t (token_run ws))
unfolding token_run
run_word w ws = refl

abbrev ended : List (List ℕ) → Run
ended ws = Ok ([], ws)

-- At the end of the line there is no next token.
pub run_end : (bytes : List ℕ) → length (skip is_space bytes) ≡ 0 → token_run (words bytes) ≡ Ok ([], words bytes)
run_end bytes none = ap token_run (words_end bytes none) ∙ run_nothing ∙ ap ended (sym (words_end bytes none))

-- Before a rule there is no next token.
pub run_rule : (bytes : List ℕ) → length (skip is_space bytes) ≢ 0 → ends_in_colon (before 32 (skip is_space bytes)) ≡ true → token_run (words bytes) ≡ Ok ([], words bytes)
run_rule bytes some colon =
    ap token_run (words_first bytes some) ∙ run_word (before 32 (skip is_space bytes)) (words (from 32 (skip is_space bytes)))
    ∙ ap (λ t. cond t (ended (before 32 (skip is_space bytes) ∷ words (from 32 (skip is_space bytes)))) (token_at (before 32 (skip is_space bytes)) >>= λ t. grown t (token_run (words (from 32 (skip is_space bytes)))))) colon
    ∙ ap ended (sym (words_first bytes some))

run_on : (bytes : List ℕ) (r : Result Token TextKind) → length (skip is_space bytes) ≢ 0 → ends_in_colon (before 32 (skip is_space bytes)) ≡ false → token_at (before 32 (skip is_space bytes)) ≡ r → token_run (words bytes) ≡ (r >>= λ t. grown t (token_run (words (from 32 (skip is_space bytes)))))
run_on bytes r some colon read =
    ap token_run (words_first bytes some) ∙ run_word (before 32 (skip is_space bytes)) (words (from 32 (skip is_space bytes)))
    ∙ ap (λ t. cond t (ended (before 32 (skip is_space bytes) ∷ words (from 32 (skip is_space bytes)))) (token_at (before 32 (skip is_space bytes)) >>= λ t. grown t (token_run (words (from 32 (skip is_space bytes)))))) colon
    ∙ ap (λ x. x >>= λ t. grown t (token_run (words (from 32 (skip is_space bytes))))) read

pub run_token : (bytes : List ℕ) (t : Token) → length (skip is_space bytes) ≢ 0 → ends_in_colon (before 32 (skip is_space bytes)) ≡ false → token_at (before 32 (skip is_space bytes)) ≡ Ok t → token_run (words bytes) ≡ grown t (token_run (words (from 32 (skip is_space bytes))))
run_token bytes t some colon read = run_on bytes (Ok t) some colon read

pub run_fault : (bytes : List ℕ) (kind : TextKind) → length (skip is_space bytes) ≢ 0 → ends_in_colon (before 32 (skip is_space bytes)) ≡ false → token_at (before 32 (skip is_space bytes)) ≡ Err kind → token_run (words bytes) ≡ Err kind
run_fault bytes kind some colon read = run_on bytes (Err kind) some colon read

-- Tokens in front of a run.

pub before_none : (ts us : List Token) (ws : List (List ℕ)) (r : Run) → us ≡ ts → r ≡ Ok ([], ws) → put_before ts r ≡ Ok (us, ws)
before_none ts us ws r same is = ap (put_before ts) is ∙ ap (λ l. Ok (l, ws)) (append-nil ts ∙ sym same)

before_grown : (ts : List Token) (t : Token) (r : Run) → put_before ts (grown t r) ≡ put_before (ts ++ t ∷ []) r
before_grown ts t (Ok x) = ap (λ l. Ok (l, x.1)) (sym (append_assoc ts (t ∷ []) x.0))
before_grown ts t (Err kind) = refl

pub before_some : (ts us : List Token) (t : Token) (r next : Run) → us ≡ ts ++ t ∷ [] → r ≡ grown t next → put_before ts r ≡ put_before us next
before_some ts us t r next same is = ap (put_before ts) is ∙ before_grown ts t next ∙ ap (λ l. put_before l next) (sym same)

pub before_fault : (ts : List Token) (kind : TextKind) (r : Run) → r ≡ Err kind → put_before ts r ≡ Err kind
before_fault ts kind r is = ap (put_before ts) is

before_first : (t : Token) (r : Run) → grown t r ≡ put_before (t ∷ []) r
before_first t (Ok x) = refl
before_first t (Err kind) = refl

pub run_first : (t : Token) (r next : Run) → r ≡ grown t next → r ≡ put_before (t ∷ []) next
run_first t r next is = is ∙ before_first t next

-- Rules.

front : List (List ℕ) → List (List ℕ)
front [] = []
front (w ∷ ws) = cond (ends_in_colon w) [] (w ∷ front ws)

back : List (List ℕ) → List (List ℕ)
back [] = []
back (w ∷ ws) = cond (ends_in_colon w) (w ∷ ws) (back ws)

groups_word : (w : List ℕ) (ws : List (List ℕ)) → groups (w ∷ ws) ≡ cond (begins_rule ws) ((w ∷ []) ∷ groups ws) (onto w (groups ws))
unfolding groups
groups_word w ws = refl

groups_none : groups [] ≡ []
unfolding groups
groups_none = refl

-- The first group has the words up to the next one that ends with `:`.
groups_front : (w : List ℕ) (ws : List (List ℕ)) → groups (w ∷ ws) ≡ (w ∷ front ws) ∷ groups (back ws)
unfolding front back
groups_front w [] = groups_word w [] ∙ ap (onto w) groups_none ∙ ap (λ l. (w ∷ []) ∷ l) (sym groups_none)
groups_front w (v ∷ ws) =
    groups_word w (v ∷ ws)
    ∙ elim_bool (ends_in_colon v) (λ t. cond t ((w ∷ []) ∷ groups (v ∷ ws)) (onto w (groups (v ∷ ws))) ≡ (w ∷ cond t [] (v ∷ front ws)) ∷ groups (cond t (v ∷ ws) (back ws)))
    (λ _. refl) (λ _. ap (onto w) (groups_front v ws))

each_nothing : each token_at [] ≡ Ok []
unfolding each
each_nothing = refl

each_word : (w : List ℕ) (ws : List (List ℕ)) → each token_at (w ∷ ws) ≡ (token_at w >>= λ t. each token_at ws >>= λ ts. Ok (t ∷ ts))
unfolding each
each_word w ws = refl

grown_each : (r : Result Token TextKind) (q : Result (List Token) TextKind) (b : List (List ℕ)) → (r >>= λ t. grown t (q >>= λ ts. Ok (ts, b))) ≡ ((r >>= λ t. q >>= λ ts. Ok (t ∷ ts)) >>= λ ts. Ok (ts, b))
grown_each (Ok t) (Ok ts) b = refl
grown_each (Ok t) (Err kind) b = refl
grown_each (Err kind) q b = refl

abbrev with_back : Result (List Token) TextKind → List (List ℕ) → Run
with_back r b = r >>= λ ts. Ok (ts, b)

run_is : (ws : List (List ℕ)) → token_run ws ≡ with_back (each token_at (front ws)) (back ws)
unfolding front back
run_is [] = run_nothing ∙ ap (λ r. with_back r []) (sym each_nothing)
run_is (w ∷ ws) =
    run_word w ws
    ∙ elim_bool (ends_in_colon w) (λ t. cond t (ended (w ∷ ws)) (token_at w >>= λ u. grown u (token_run ws)) ≡ with_back (each token_at (cond t [] (w ∷ front ws))) (cond t (w ∷ ws) (back ws)))
    (λ _. ap (λ r. with_back r (w ∷ ws)) (sym each_nothing))
    (λ _. ap (λ r. token_at w >>= λ u. grown u r) (run_is ws) ∙ grown_each (token_at w) (each token_at (front ws)) (back ws)
    ∙ ap (λ r. with_back r (back ws)) (sym (each_word w (front ws))))

-- The rule with this target and these tokens.
abbrev made_rule : Target → List Token → RuleText
made_rule target tokens = record { target = target; tokens = tokens }

rule_word : (w : List ℕ) (later : List (List ℕ)) → rule_at (w ∷ later) ≡ (target_at w >>= λ target. some_of later >>= λ given. each token_at given >>= λ tokens. Ok (made_rule target tokens))
unfolding rule_at
rule_word w later = refl

rule_run_word : (w : List ℕ) (ws : List (List ℕ)) → rule_run (w ∷ ws) ≡ (target_at w >>= λ target. token_run ws >>= λ run. some_of run.0 >>= λ tokens. Ok (made_rule target tokens, run.1))
unfolding rule_run
rule_run_word w ws = refl

each_rule : (g : List (List ℕ)) (gs : List (List (List ℕ))) → each rule_at (g ∷ gs) ≡ (rule_at g >>= λ r. each rule_at gs >>= λ rs. Ok (r ∷ rs))
unfolding each
each_rule g gs = refl

bind_assoc : {A B C : Type 0} (r : Result A TextKind) (f : A → Result B TextKind) (g : B → Result C TextKind) → ((r >>= f) >>= g) ≡ (r >>= λ x. f x >>= g)
bind_assoc (Ok x) f g = refl
bind_assoc (Err kind) f g = refl

cons_some : {B : Type 0} (r : Result B TextKind) (q : Result (List B) TextKind) → (r >>= λ y. q >>= λ ys. Ok (y ∷ ys)) ≡ ((r >>= λ y. q >>= λ ys. Ok (y ∷ ys)) >>= some_of)
cons_some (Ok y) (Ok ys) = refl
cons_some (Ok y) (Err kind) = refl
cons_some (Err kind) q = refl

-- Whether there is a rule may be tested before or after reading them.
some_each : {A B : Type 0} (f : A → Result B TextKind) (xs : List A) → (some_of xs >>= each f) ≡ (each f xs >>= some_of)
unfolding each
some_each f [] = refl
some_each f (x ∷ xs) = cons_some (f x) (each f xs)

abbrev Later : Type 0
Later = List (List ℕ) → Result (List RuleText) TextKind

abbrev with_rules : Later → Result (RuleText × List (List ℕ)) TextKind → Result (List RuleText) TextKind
with_rules later r = r >>= λ x. later x.1 >>= λ rs. Ok (x.0 ∷ rs)

rule_tokens : (t : Target) (e : Result (List Token) TextKind) (b : List (List ℕ)) (later : Later) → (((e >>= some_of) >>= λ ts. Ok (made_rule t ts)) >>= λ r. later b >>= λ rs. Ok (r ∷ rs)) ≡ with_rules later (with_back e b >>= λ run. some_of run.0 >>= λ ts. Ok (made_rule t ts, run.1))
rule_tokens t (Ok []) b later = refl
rule_tokens t (Ok (u ∷ us)) b later = refl
rule_tokens t (Err kind) b later = refl

rule_parts : (t : Result Target TextKind) (given : List (List ℕ)) (b : List (List ℕ)) (later : Later) → ((t >>= λ target. some_of given >>= λ g. each token_at g >>= λ ts. Ok (made_rule target ts)) >>= λ r. later b >>= λ rs. Ok (r ∷ rs)) ≡ with_rules later (t >>= λ target. with_back (each token_at given) b >>= λ run. some_of run.0 >>= λ ts. Ok (made_rule target ts, run.1))
rule_parts (Ok target) given b later =
    ap (λ r. r >>= λ x. later b >>= λ rs. Ok (x ∷ rs)) (sym (bind_assoc (some_of given) (each token_at) (λ ts. Ok (made_rule target ts))) ∙ ap (λ r. r >>= λ ts. Ok (made_rule target ts)) (some_each token_at given))
    ∙ rule_tokens target (each token_at given) b later
rule_parts (Err kind) given b later = refl

abbrev rules_of : Later
rules_of ws = each rule_at (groups ws)

rule_step : (w : List ℕ) (ws : List (List ℕ)) → rules_of (w ∷ ws) ≡ with_rules rules_of (rule_run (w ∷ ws))
rule_step w ws =
    ap (each rule_at) (groups_front w ws) ∙ each_rule (w ∷ front ws) (groups (back ws))
    ∙ ap (λ r. r >>= λ x. rules_of (back ws) >>= λ rs. Ok (x ∷ rs)) (rule_word w (front ws))
    ∙ rule_parts (target_at w) (front ws) (back ws) rules_of
    ∙ ap (λ r. with_rules rules_of (target_at w >>= λ target. r >>= λ run. some_of run.0 >>= λ ts. Ok (made_rule target ts, run.1))) (sym (run_is ws))
    ∙ ap (with_rules rules_of) (sym (rule_run_word w ws))

rules_step : (bytes : List ℕ) → length (skip is_space bytes) ≢ 0 → rules_of (words bytes) ≡ with_rules rules_of (rule_run (words bytes))
rules_step bytes some =
    ap rules_of (words_first bytes some) ∙ rule_step (before 32 (skip is_space bytes)) (words (from 32 (skip is_space bytes)))
    ∙ ap (λ ws. with_rules rules_of (rule_run ws)) (sym (words_first bytes some))

-- One rule.

rule_run_none : rule_run [] ≡ Err Rule
unfolding rule_run
rule_run_none = refl

pub rule_end : (bytes : List ℕ) → length (skip is_space bytes) ≡ 0 → rule_run (words bytes) ≡ Err Rule
rule_end bytes none = ap rule_run (words_end bytes none) ∙ rule_run_none

rule_of : (bytes : List ℕ) → length (skip is_space bytes) ≢ 0 → rule_run (words bytes) ≡ (target_at (before 32 (skip is_space bytes)) >>= λ target. token_run (words (from 32 (skip is_space bytes))) >>= λ run. some_of run.0 >>= λ tokens. Ok (made_rule target tokens, run.1))
rule_of bytes some = ap rule_run (words_first bytes some) ∙ rule_run_word (before 32 (skip is_space bytes)) (words (from 32 (skip is_space bytes)))

abbrev rule_from : Result Target TextKind → Run → Result (RuleText × List (List ℕ)) TextKind
rule_from t r = t >>= λ target. r >>= λ run. some_of run.0 >>= λ tokens. Ok (made_rule target tokens, run.1)

pub rule_bad_target : (bytes : List ℕ) (kind : TextKind) → length (skip is_space bytes) ≢ 0 → target_at (before 32 (skip is_space bytes)) ≡ Err kind → rule_run (words bytes) ≡ Err kind
rule_bad_target bytes kind some read = rule_of bytes some ∙ ap (λ t. rule_from t (token_run (words (from 32 (skip is_space bytes))))) read

pub rule_bad_tokens : (bytes : List ℕ) (target : Target) (kind : TextKind) → length (skip is_space bytes) ≢ 0 → target_at (before 32 (skip is_space bytes)) ≡ Ok target → token_run (words (from 32 (skip is_space bytes))) ≡ Err kind → rule_run (words bytes) ≡ Err kind
rule_bad_tokens bytes target kind some read run = rule_of bytes some ∙ ap (λ t. rule_from t (token_run (words (from 32 (skip is_space bytes))))) read ∙ ap (rule_from (Ok target)) run

some_given : (ts : List Token) → length ts ≢ 0 → some_of ts ≡ Ok ts
some_given [] some = absurd (some refl)
some_given (t ∷ ts) some = refl

none_given : (ts : List Token) → length ts ≡ 0 → some_of ts ≡ Err Rule
none_given [] none = refl
none_given (t ∷ ts) none = absurd (omega arith)

rule_read : (bytes : List ℕ) (target : Target) (ts : List Token) (ws : List (List ℕ)) → length (skip is_space bytes) ≢ 0 → target_at (before 32 (skip is_space bytes)) ≡ Ok target → token_run (words (from 32 (skip is_space bytes))) ≡ Ok (ts, ws) → rule_run (words bytes) ≡ (some_of ts >>= λ tokens. Ok (made_rule target tokens, ws))
rule_read bytes target ts ws some read run = rule_of bytes some ∙ ap (λ t. rule_from t (token_run (words (from 32 (skip is_space bytes))))) read ∙ ap (rule_from (Ok target)) run

pub rule_next : (bytes : List ℕ) (target : Target) (ts : List Token) (ws : List (List ℕ)) → length (skip is_space bytes) ≢ 0 → target_at (before 32 (skip is_space bytes)) ≡ Ok target → token_run (words (from 32 (skip is_space bytes))) ≡ Ok (ts, ws) → length ts ≢ 0 → rule_run (words bytes) ≡ Ok (record { target = target; tokens = ts }, ws)
rule_next bytes target ts ws some read run given = rule_read bytes target ts ws some read run ∙ ap (λ r. r >>= λ tokens. Ok (made_rule target tokens, ws)) (some_given ts given)

pub rule_empty : (bytes : List ℕ) (target : Target) (ts : List Token) (ws : List (List ℕ)) → length (skip is_space bytes) ≢ 0 → target_at (before 32 (skip is_space bytes)) ≡ Ok target → token_run (words (from 32 (skip is_space bytes))) ≡ Ok (ts, ws) → length ts ≡ 0 → rule_run (words bytes) ≡ Err Rule
rule_empty bytes target ts ws some read run none = rule_read bytes target ts ws some read run ∙ ap (λ r. r >>= λ tokens. Ok (made_rule target tokens, ws)) (none_given ts none)

-- Rules, one after another.

some_skipped : (rest : List ℕ) → skip is_space rest ≡ rest → length rest ≢ 0 → length (skip is_space rest) ≢ 0
some_skipped rest stays some none = some (sym (ap length stays) ∙ none)

pub rules_start : (bytes rest : List ℕ) (rules : List RuleText) → rules ≡ [] → rest ≡ skip is_space bytes → each rule_at (groups (words bytes)) ≡ behind rules (each rule_at (groups (words rest)))
rules_start bytes rest rules none is =
    ap rules_of (sym (words_skip bytes) ∙ ap words (sym is)) ∙ behind_nothing (rules_of (words rest)) ∙ ap (λ l. behind l (rules_of (words rest))) (sym none)

pub rules_more : (bytes rest later next : List ℕ) (rules : List RuleText) (x : RuleText) → skip is_space rest ≡ rest → length rest ≢ 0 → rule_run (words rest) ≡ Ok (x, words later) → next ≡ skip is_space later → each rule_at (groups (words bytes)) ≡ behind rules (each rule_at (groups (words rest))) → each rule_at (groups (words bytes)) ≡ behind (rules ++ x ∷ []) (each rule_at (groups (words next)))
rules_more bytes rest later next rules x stays some read is so_far =
    so_far ∙ ap (behind rules) (rules_step rest (some_skipped rest stays some) ∙ ap (with_rules rules_of) read) ∙ behind_push rules x (rules_of (words later))
    ∙ ap (λ ws. behind (rules ++ x ∷ []) (rules_of ws)) (sym (words_skip later) ∙ ap words (sym is))

rules_read : (bytes : List ℕ) (r : Result (List RuleText) TextKind) → rules_of (words bytes) ≡ r → rules_at bytes ≡ (r >>= some_of)
unfolding rules_at
rules_read bytes r is = some_each rule_at (groups (words bytes)) ∙ ap (λ x. x >>= some_of) is

pub rules_fault : (bytes rest : List ℕ) (rules : List RuleText) (kind : TextKind) → skip is_space rest ≡ rest → length rest ≢ 0 → rule_run (words rest) ≡ Err kind → each rule_at (groups (words bytes)) ≡ behind rules (each rule_at (groups (words rest))) → rules_at bytes ≡ Err kind
rules_fault bytes rest rules kind stays some read so_far =
    rules_read bytes _ (so_far ∙ ap (behind rules) (rules_step rest (some_skipped rest stays some) ∙ ap (with_rules rules_of) read))

rules_nothing : rules_of [] ≡ Ok []
unfolding each
rules_nothing = ap (each rule_at) groups_none

nothing_is : {A : Type 0} (xs : List A) → length xs ≡ 0 → xs ≡ []
nothing_is [] none = refl
nothing_is (x ∷ xs) none = absurd (omega arith)

rules_done : (bytes rest : List ℕ) (rules : List RuleText) → length rest ≡ 0 → each rule_at (groups (words bytes)) ≡ behind rules (each rule_at (groups (words rest))) → rules_at bytes ≡ some_of rules
rules_done bytes rest rules none so_far =
    rules_read bytes (Ok rules) (so_far ∙ ap (λ l. behind rules (rules_of (words l))) (nothing_is rest none)
    ∙ ap (λ ws. behind rules (rules_of ws)) words_nothing ∙ ap (behind rules) rules_nothing ∙ ap Ok (append-nil rules))

some_rules : (rules : List RuleText) → length rules ≢ 0 → some_of rules ≡ Ok rules
some_rules [] some = absurd (some refl)
some_rules (r ∷ rules) some = refl

none_rules : (rules : List RuleText) → length rules ≡ 0 → some_of rules ≡ Err Rule
none_rules [] none = refl
none_rules (r ∷ rules) none = absurd (omega arith)

pub rules_some : (bytes rest : List ℕ) (rules : List RuleText) → length rules ≢ 0 → length rest ≡ 0 → each rule_at (groups (words bytes)) ≡ behind rules (each rule_at (groups (words rest))) → rules_at bytes ≡ Ok rules
rules_some bytes rest rules some none so_far = rules_done bytes rest rules none so_far ∙ some_rules rules some

pub rules_none : (bytes rest : List ℕ) (rules : List RuleText) → length rules ≡ 0 → length rest ≡ 0 → each rule_at (groups (words bytes)) ≡ behind rules (each rule_at (groups (words rest))) → rules_at bytes ≡ Err Rule
rules_none bytes rest rules empty none so_far = rules_done bytes rest rules none so_far ∙ none_rules rules empty

-- A step that stops also stops the whole call.

pub pass_on : {A B C D : Type 0} (stop : Stop TextKind) (shown : A → B) (given : C → D) (r : Result B TextKind) (q : Result D TextKind) → ((kind : TextKind) → r ≡ Err kind → q ≡ Err kind) → Gives {A = A} (Err stop) shown r → Gives {A = C} (Err stop) given q
pass_on (Fault kind) shown given r q on is = on kind is
pass_on NoMemory shown given r q on is = tt

pub pass_next : {A B C : Type 0} (stop : Stop TextKind) (shown : C → B) (r : Result B TextKind) (token : A → Token) (later : A → List (List ℕ)) (ws : List (List ℕ)) → ((kind : TextKind) → r ≡ Err kind → token_run ws ≡ Err kind) → Gives {A = C} (Err stop) shown r → GivesNext {A = A} (Err stop) token later ws
pass_next (Fault kind) shown r token later ws on is = on kind is
pass_next NoMemory shown r token later ws on is = tt

pub run_stopped : (bytes field word : List ℕ) (kind : TextKind) → field ≡ skip is_space bytes → length field ≢ 0 → word ≡ before 32 field → ends_in_colon word ≡ false → token_at word ≡ Err kind → token_run (words bytes) ≡ Err kind
run_stopped bytes field word kind is some first colon read =
    let same : word ≡ before 32 (skip is_space bytes) = first ∙ ap (before 32) is in
    run_fault bytes kind (λ none. some (ap length is ∙ none)) (ap ends_in_colon (sym same) ∙ colon) (ap token_at (sym same) ∙ read)

pub target_stopped : (bytes field word : List ℕ) (kind : TextKind) → field ≡ skip is_space bytes → length field ≢ 0 → word ≡ before 32 field → target_at word ≡ Err kind → rule_run (words bytes) ≡ Err kind
target_stopped bytes field word kind is some first read =
    let same : word ≡ before 32 (skip is_space bytes) = first ∙ ap (before 32) is in
    rule_bad_target bytes kind (λ none. some (ap length is ∙ none)) (ap target_at (sym same) ∙ read)

pub tokens_stopped : (bytes field word rest : List ℕ) (target : Target) (kind : TextKind) → field ≡ skip is_space bytes → length field ≢ 0 → word ≡ before 32 field → rest ≡ from 32 field → target_at word ≡ Ok target → token_run (words rest) ≡ Err kind → rule_run (words bytes) ≡ Err kind
tokens_stopped bytes field word rest target kind is some first second read run =
    let same : word ≡ before 32 (skip is_space bytes) = first ∙ ap (before 32) is in
    let left : rest ≡ from 32 (skip is_space bytes) = second ∙ ap (from 32) is in
    rule_bad_tokens bytes target kind (λ none. some (ap length is ∙ none)) (ap target_at (sym same) ∙ read) (ap (λ l. token_run (words l)) (sym left) ∙ run)
