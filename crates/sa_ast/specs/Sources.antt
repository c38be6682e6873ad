-- The source texts of a program.
use Rattle.std.specs.Prelude.{ℕ, List, [], slice_index_or}
use Rattle.sa_ast.specs.declared.pos.Sources.{Sources}

-- the text with this number, from 0
abbrev pub text_of : Sources → ℕ → List ℕ
text_of sources file = slice_index_or sources.texts file []
