-- Counted lists: items one after another.
use Rattle.std.specs.Prelude.{ℕ, zero, suc, List, [], ◌∷◌, Result, Ok}
use Rattle.sym_edges.specs.Results.{◌>>=◌}
use Rattle.leb_cursor.specs.Ahead.{Ahead}

-- n items
unfoldable pub several_at : {A E : Type 0} → (Ahead → Result (A × Ahead) E) → ℕ → Ahead → Result (List A × Ahead) E
several_at item zero c = Ok ([], c)
several_at item (suc n) c = item c >>= λ first. several_at item n first.1 >>= λ later. Ok (first.0 ∷ later.0, later.1)
