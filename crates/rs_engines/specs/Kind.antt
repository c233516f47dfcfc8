-- The engines by name.
use Rattle.std.specs.Prelude.{ℕ, List, codes, Option, Some, None, if◌then◌else◌}
use Rattle.std.specs.Str.{bytes_eq}
use Rattle.rs_field.specs.declared.words.tables.Tables.{Tables}
use Rattle.rs_engines.specs.declared.engine_default.EngineKind.{EngineKind}
use Rattle.rs_engines.specs.declared.engine_default.EngineKind.TheVariants.{Naive, NoSimd, Avx2, Ssse3}
use Rattle.rs_engines.specs.declared.engine_default.DefaultEngine.{DefaultEngine}

-- the kind of an engine
abbrev pub kind_of : DefaultEngine → EngineKind
kind_of (DefaultEngine.Naive engine) = Naive
kind_of (DefaultEngine.NoSimd engine) = NoSimd
kind_of (DefaultEngine.Avx2 engine) = Avx2
kind_of (DefaultEngine.Ssse3 engine) = Ssse3

-- the tables that an engine borrows
abbrev pub tables_of : DefaultEngine → Tables
tables_of (DefaultEngine.Naive engine) = engine.tables.now
tables_of (DefaultEngine.NoSimd engine) = engine.tables.now
tables_of (DefaultEngine.Avx2 engine) = engine.tables.now
tables_of (DefaultEngine.Ssse3 engine) = engine.tables.now

-- the kind of engine whose name the word is, if it is the name of an engine
abbrev pub engine_named : List ℕ → Option EngineKind
engine_named word =
    if bytes_eq word (codes "naive") then Some Naive
    else if bytes_eq word (codes "nosimd") then Some NoSimd
    else if bytes_eq word (codes "avx2") then Some Avx2
    else if bytes_eq word (codes "ssse3") then Some Ssse3
    else None
