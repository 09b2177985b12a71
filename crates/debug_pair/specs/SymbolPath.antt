-- The path of the symbol file of a module in a store (Breakpad's symbol_files.md; its tools lay out stores in this way).
use Rattle.std.specs.Prelude.{ℕ, List, ◌++◌, codes}
use Rattle.debug_pair.specs.ModuleId.{module_id}

-- STORE/NAME/ID/NAME.sym, given the module's name and its identity; ID is the id in MODULE
unfoldable pub symbol_path : List ℕ → List ℕ → List ℕ → List ℕ
symbol_path store name identity = store ++ codes "/" ++ name ++ codes "/" ++ module_id identity ++ codes "/" ++ name ++ codes ".sym"
