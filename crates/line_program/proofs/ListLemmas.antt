-- Counted items, read one after another.
use Rattle.std.proofs.Common.{◌≡◌, ℕ, zero, suc, ◌+◌, List, [], ◌∷◌, ◌++◌, Result, Ok, Err, refl, sym, ◌∙◌, ap, append_assoc, append-nil, arith}
use Rattle.sym_edges.specs.Results.{◌>>=◌}
use Rattle.leb_cursor.specs.Ahead.{Ahead}
use Rattle.leb_cursor.proofs.ListLemmas.{behind}
use Rattle.line_program.specs.Lists.{several_at}

behind_more : {A E : Type 0} (done : List A) (x : A) (later : Result (List A × Ahead) E) → behind done (later >>= λ rest. Ok (x ∷ rest.0, rest.1)) ≡ behind (done ++ x ∷ []) later
behind_more done x (Ok rest) = ap (λ xs. Ok (xs, rest.1)) (sym (append_assoc done (x ∷ []) rest.0))
behind_more done x (Err fault) = refl

turn : {A E : Type 0} (item : Ahead → Result (A × Ahead) E) (n less : ℕ) (c : Ahead) → n ≡ less + 1 → several_at item n c ≡ (item c >>= λ first. several_at item less first.1 >>= λ later. Ok (first.0 ∷ later.0, later.1))
unfolding several_at
turn item n less c count = ap (λ k. several_at item k c) (let same : n ≡ suc less = omega arith in same)

pub several_more : {A E : Type 0} (item : Ahead → Result (A × Ahead) E) (n less : ℕ) (done more : List A) (x : A) (c d : Ahead) → n ≡ less + 1 → Ok (x, d) ≡ item c → more ≡ done ++ x ∷ [] → behind done (several_at item n c) ≡ behind more (several_at item less d)
several_more item n less done more x c d count is added =
    ap (behind done) (turn item n less c count ∙ ap (λ r. r >>= λ first. several_at item less first.1 >>= λ later. Ok (first.0 ∷ later.0, later.1)) (sym is))
    ∙ behind_more done x (several_at item less d)
    ∙ ap (λ xs. behind xs (several_at item less d)) (sym added)

pub several_cut : {A E : Type 0} (item : Ahead → Result (A × Ahead) E) (n less : ℕ) (done : List A) (c : Ahead) (fault : E) → n ≡ less + 1 → Err fault ≡ item c → behind done (several_at item n c) ≡ Err fault
several_cut item n less done c fault count is =
    ap (behind done) (turn item n less c count ∙ ap (λ r. r >>= λ first. several_at item less first.1 >>= λ later. Ok (first.0 ∷ later.0, later.1)) (sym is))

pub several_out : {A E : Type 0} (item : Ahead → Result (A × Ahead) E) (n : ℕ) (done : List A) (c : Ahead) → n ≡ 0 → behind done (several_at item n c) ≡ Ok (done, c)
unfolding several_at
several_out item zero done c none = ap (λ xs. Ok (xs, c)) (append-nil done)
several_out item (suc n) done c none = absurd (omega arith)
