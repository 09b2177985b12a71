-- Worked examples: the path of a module's symbol file in a store, and those of supplementary files.
use Rattle.std.proofs.Common.{◌≡◌, [], ◌∷◌, codes, Some, None, refl}
use Rattle.hex.proofs.OnLiterals.{hex_on_literals}
use Rattle.debug_pair.specs.ModuleId.{turned, module_id}
use Rattle.debug_pair.specs.SymbolPath.{symbol_path}
use Rattle.debug_pair.specs.SupPath.{sup_path}
use Rattle.debug_pair.proofs.Computing.{debug_pair_computes}

in_store : symbol_path (codes "/s") (codes "a") (0 ∷ 1 ∷ 2 ∷ 3 ∷ 4 ∷ 5 ∷ 6 ∷ 7 ∷ 8 ∷ 9 ∷ 10 ∷ 11 ∷ 12 ∷ 13 ∷ 14 ∷ 15 ∷ [])
    ≡ codes "/s/a/030201000504070608090A0B0C0D0E0F0/a.sym"
unfolding hex_on_literals turned module_id symbol_path
in_store = refl

-- Below the given root, the linked path from `/.dwz/` on.
below_a_root : sup_path (Some (codes "/d")) (codes "/bin/a") (codes "/usr/lib/debug/.dwz/x/s.debug") ∷ sup_path (Some (codes "d")) (codes "/usr/lib/debug/.build-id/ab/cd.debug") (codes "../../.dwz/s") ∷ []
    ≡ Some (codes "/d/.dwz/x/s.debug") ∷ Some (codes "d/.dwz/s") ∷ []
unfolding debug_pair_computes
below_a_root = refl

-- Only the part from the last `/.dwz/` on counts.
last_folder : sup_path (Some (codes "/d")) (codes "a") (codes "/x/.dwz/y/.dwz/s") ∷ sup_path (Some (codes "/d")) (codes "a") (codes "../../.dwz/s") ∷ []
    ≡ Some (codes "/d/.dwz/s") ∷ Some (codes "/d/.dwz/s") ∷ []
unfolding debug_pair_computes
last_folder = refl

-- The root is the part of the file's name before its last `/.build-id/`.
by_build_id : sup_path None (codes "/usr/lib/debug/.build-id/ab/cd.debug") (codes "../../.dwz/x/s.debug") ∷ sup_path None (codes "/r/.build-id/x/.build-id/ab/cd.debug") (codes "/.dwz/s") ∷ sup_path None (codes "/.build-id/ab/cd.debug") (codes "/.dwz/s") ∷ []
    ≡ Some (codes "/usr/lib/debug/.dwz/x/s.debug") ∷ Some (codes "/r/.build-id/x/.dwz/s") ∷ Some (codes "/.dwz/s") ∷ []
unfolding debug_pair_computes
by_build_id = refl

-- Below a root, the linked path must have a folder `.dwz`.
no_folder : sup_path (Some (codes "/d")) (codes "a") (codes "s") ∷ sup_path (Some (codes "/d")) (codes "a") (codes ".dwz/s") ∷ sup_path (Some (codes "/d")) (codes "a") (codes "/.dwz") ∷ sup_path None (codes "/r/.build-id/ab/cd.debug") (codes "../s") ∷ []
    ≡ None ∷ None ∷ None ∷ None ∷ []
unfolding debug_pair_computes
no_folder = refl

-- After this folder, no component may be `..`.
leads_out : sup_path (Some (codes "/d")) (codes "a") (codes "/.dwz/..") ∷ sup_path (Some (codes "/d")) (codes "a") (codes "/.dwz/../s") ∷ sup_path (Some (codes "/d")) (codes "a") (codes "/.dwz/x/../s") ∷ sup_path (Some (codes "/d")) (codes "a") (codes "/.dwz/x/..") ∷ sup_path None (codes "/r/.build-id/ab/cd.debug") (codes "/.dwz/../s") ∷ []
    ≡ None ∷ None ∷ None ∷ None ∷ None ∷ []
unfolding debug_pair_computes
leads_out = refl

-- Names with dots are allowed, and so is a root with a component `..`.
two_dots : sup_path (Some (codes "/d")) (codes "a") (codes "/.dwz/..s/x../...") ∷ sup_path (Some (codes "/d/..")) (codes "a") (codes "/.dwz/s") ∷ []
    ≡ Some (codes "/d/.dwz/..s/x../...") ∷ Some (codes "/d/../.dwz/s") ∷ []
unfolding debug_pair_computes
two_dots = refl

-- Without a root, a path that begins with `/` is used as it is.
as_it_is : sup_path None (codes "/bin/a") (codes "/usr/lib/debug/.dwz/s") ∷ sup_path None (codes "a") (codes "/s") ∷ []
    ≡ Some (codes "/usr/lib/debug/.dwz/s") ∷ Some (codes "/s") ∷ []
unfolding debug_pair_computes
as_it_is = refl

-- Without a root, any other path is relative to the folder of the file.
beside : sup_path None (codes "x/y/a") (codes "../s") ∷ sup_path None (codes "a") (codes "s") ∷ sup_path None (codes "/a") (codes "s") ∷ sup_path None (codes "x.build-id/a") (codes ".dwz/../s") ∷ []
    ≡ Some (codes "x/y/../s") ∷ Some (codes "s") ∷ Some (codes "/s") ∷ Some (codes "x.build-id/.dwz/../s") ∷ []
unfolding debug_pair_computes
beside = refl
