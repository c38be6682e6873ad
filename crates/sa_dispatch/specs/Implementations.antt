-- The implementations of a program's signatures: for each signature the types that implement it, in the order of the
-- implementations.
use Rattle.std.specs.Prelude.{ℕ, ◌+◌, ◌==◌, List, Option, length, map, take, slice_get, option_and_then, sum_by}
use Rattle.std.specs.List.{position}
use Rattle.std.specs.Option.{option_map}
use Rattle.sa_typed.specs.declared.program.TypedImplementation.{TypedImplementation}
use Rattle.sa_typed.specs.declared.program.TypedSignature.{TypedSignature}

-- the types that implement a signature
abbrev pub types_of : List TypedImplementation → List ℕ
types_of implementations = map (λ implementation. implementation.ty) implementations

-- those of each signature
abbrev pub tables_of : List TypedSignature → List (List ℕ)
tables_of signatures = map (λ signature. types_of signature.impls) signatures

-- the index of a signature's first implementation in the list of the implementations of all signatures
abbrev pub first_of : List (List ℕ) → ℕ → ℕ
first_of rows sig = sum_by length (take sig rows)

-- the index, in this list, of a signature's implementation for a type
abbrev pub implementation_of : List (List ℕ) → ℕ → ℕ → Option ℕ
implementation_of rows sig ty =
    option_and_then (λ types. option_map (λ place. first_of rows sig + place) (position (λ t. t == ty) types)) (slice_get rows sig)
