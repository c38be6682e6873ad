-- The first argument that asks for something, or after which all arguments are names.
use Rattle.std.proofs.Common.{◌≡◌, ◌∙◌, ℕ, ◌||◌, Bool, false, ap, sym, List, map, Option}
use Rattle.std.specs.Prelude.{find, option_map}
use Rattle.std.specs.Option.{option_map_or}
use Rattle.clap.proofs.WalkLemmas.{find-map}
use Rattle.sa_cli.specs.Help.{ends_options}

abbrev pub decides : (List ℕ → Bool) → List ℕ → Bool
decides asks word = asks word || ends_options word

pub asks_by : {X : Type 0} (asks : List ℕ → Bool) (text : X → List ℕ) (words : List X) (found : Option (List ℕ)) → option_map text (find (λ word. decides asks (text word)) words) ≡ found → option_map_or asks (find (decides asks) (map text words)) false ≡ option_map_or asks found false
asks_by asks text words found same = ap (λ first. option_map_or asks first false) (sym (find-map (decides asks) text words) ∙ same)
