-- The features that the implementation defines.
use Rattle.std.specs.Prelude.{ℕ, Bool, ◌&&◌, ◌==◌, List, [], ◌∷◌, codes, bytes_eq}

-- the names of the class and of the feature, and the number of its arguments
abbrev pub features : List (List ℕ × List ℕ × ℕ)
features =
    (codes "BOOL", codes "is_eq", 1)
    ∷ (codes "BOOL", codes "not", 0)
    ∷ (codes "INT", codes "plus", 1)
    ∷ (codes "INT", codes "minus", 1)
    ∷ (codes "INT", codes "times", 1)
    ∷ (codes "INT", codes "negate", 0)
    ∷ (codes "INT", codes "div", 1)
    ∷ (codes "INT", codes "mod", 1)
    ∷ (codes "INT", codes "is_eq", 1)
    ∷ (codes "INT", codes "is_lt", 1)
    ∷ (codes "INT", codes "band", 1)
    ∷ (codes "INT", codes "bor", 1)
    ∷ (codes "INT", codes "bxor", 1)
    ∷ (codes "INT", codes "str", 0)
    ∷ (codes "INT", codes "char", 0)
    ∷ (codes "CHAR", codes "is_eq", 1)
    ∷ (codes "CHAR", codes "is_lt", 1)
    ∷ (codes "CHAR", codes "int", 0)
    ∷ (codes "CHAR", codes "str", 0)
    ∷ (codes "STR", codes "size", 0)
    ∷ (codes "STR", codes "aget", 1)
    ∷ (codes "STR", codes "cat", 1)
    ∷ (codes "STR", codes "substring", 2)
    ∷ (codes "STR", codes "of", 2)
    ∷ (codes "OUT", codes "put", 1)
    ∷ (codes "OUT", codes "put_int", 1)
    ∷ (codes "OUT", codes "put_char", 1)
    ∷ (codes "IN", codes "get_byte", 0)
    ∷ (codes "SYS", codes "ob_eq", 2)
    ∷ (codes "AREF", codes "asize", 0)
    ∷ (codes "AREF", codes "aget", 1)
    ∷ (codes "AREF", codes "aset", 2)
    ∷ (codes "ARRAY", codes "create", 1)
    ∷ []

-- the row of this class and this feature with so many arguments
abbrev pub is_row : List ℕ → List ℕ → ℕ → List ℕ × List ℕ × ℕ → Bool
is_row class name args row = bytes_eq class row.0 && bytes_eq name row.1 && row.2 == args
