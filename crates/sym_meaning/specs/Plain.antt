-- Records that a look-up of functions, inlined copies and lines skips.
use Rattle.std.specs.Prelude.{List, [], ◌∷◌}
use Rattle.sym_records.specs.declared.line.SymLine.{SymLine}
use Rattle.sym_records.specs.declared.line.SymLine.TheVariants.{File, Origin, Func, Inline, Line}

-- a record that is neither a FUNC nor a record under a FUNC
abbrev pub IsPlain : SymLine → Type 0
IsPlain (Func many address size params name) = ⊥
IsPlain (Inline level line file origin ranges) = ⊥
IsPlain (Line address size line file) = ⊥
IsPlain _ = Prim.Unit {0}

abbrev pub ArePlain : List SymLine → Type 0
ArePlain [] = Prim.Unit {0}
ArePlain (s ∷ lines) = IsPlain s × ArePlain lines

-- a record that is not a FILE
abbrev pub IsNoFile : SymLine → Type 0
IsNoFile (File number name) = ⊥
IsNoFile _ = Prim.Unit {0}

abbrev pub HaveNoFile : List SymLine → Type 0
HaveNoFile [] = Prim.Unit {0}
HaveNoFile (s ∷ lines) = IsNoFile s × HaveNoFile lines

-- a record that is not an INLINE_ORIGIN
abbrev pub IsNoOrigin : SymLine → Type 0
IsNoOrigin (Origin number name) = ⊥
IsNoOrigin _ = Prim.Unit {0}

abbrev pub HaveNoOrigin : List SymLine → Type 0
HaveNoOrigin [] = Prim.Unit {0}
HaveNoOrigin (s ∷ lines) = IsNoOrigin s × HaveNoOrigin lines
