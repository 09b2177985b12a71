-- How the result of a call relates to the result of a definition.
use Rattle.std.specs.Prelude.{◌≡◌, ⊤, ℕ, List, [], Option, Some, None, Result, Ok, Err}
use Rattle.sym_edges.specs.declared.fault.Stop.{Stop}
use Rattle.sym_edges.specs.declared.fault.Stop.TheVariants.{Fault, NoMemory}
use Rattle.sym_rules.specs.declared.rules.Token.{Token}
use Rattle.sym_rules.specs.declared.text_fault.TextKind.{TextKind}
use Rattle.sym_grammar.specs.internal.Runs.{grown, token_run}

-- the call and the definition give the same value or the same fault; if memory ran out, nothing is
-- required
abbrev pub Gives : {A B F : Type 0} → Result A (Stop F) → (A → B) → Result B F → Type 0
Gives (Ok x) shown read = read ≡ Ok (shown x)
Gives (Err (Fault fault)) shown read = read ≡ Err fault
Gives (Err NoMemory) shown read = ⊤

-- the same for a call that stores its value in an argument
abbrev pub Leaves : {A B F : Type 0} → Result A (Stop F) → B → Result B F → Type 0
Leaves (Ok x) left read = read ≡ Ok left
Leaves (Err (Fault fault)) left read = read ≡ Err fault
Leaves (Err NoMemory) left read = ⊤

-- the call gives the next token and the words after it, or nothing if no token is next
abbrev pub GivesNext : {A : Type 0} → Result (Option A) (Stop TextKind) → (A → Token) → (A → List (List ℕ)) → List (List ℕ) → Type 0
GivesNext (Ok None) token later ws = token_run ws ≡ Ok ([], ws)
GivesNext (Ok (Some x)) token later ws = token_run ws ≡ grown (token x) (token_run (later x))
GivesNext (Err (Fault kind)) token later ws = token_run ws ≡ Err kind
GivesNext (Err NoMemory) token later ws = ⊤
