-- Sinks that only grow.
use Rattle.std.proofs.Common.{◌∙◌, ℕ, ap, refl, sym, List, [], ◌++◌, take, Option, None, Some, append-nil, append_assoc}
use Rattle.std.specs.Prelude.{option_map}
use Rattle.host_io.specs.Output.{Grew, Took, TookFront}

pub Grew-refl : (output : Option (List ℕ)) → Grew output output
Grew-refl None = ([], refl)
Grew-refl (Some taken) = ([], ap Some (sym (append-nil taken)))

pub Grew-took : (old new : Option (List ℕ)) (bytes : List ℕ) → Took old new bytes → Grew old new
Grew-took old new bytes took = (bytes, took)

pub Grew-front : (old new : Option (List ℕ)) (bytes : List ℕ) → TookFront old new bytes → Grew old new
Grew-front old new bytes front = (take front.0 bytes, front.1)

pub Grew-trans : (a b c : Option (List ℕ)) → Grew a b → Grew b c → Grew a c
Grew-trans None b c first second = ([], second.1 ∙ ap (option_map (λ taken. taken ++ second.0)) first.1)
Grew-trans (Some taken) b c first second = (first.0 ++ second.0, second.1 ∙ ap (option_map (λ taken. taken ++ second.0)) first.1 ∙ ap Some (append_assoc taken first.0 second.0))
