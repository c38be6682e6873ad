-- Classes after others, with their contracts: what is made of all of them is what is made of each, one after the other.
use Rattle.std.proofs.Common.{◌≡◌, ℕ, suc, ◌+◌, List, [], ◌∷◌, ◌++◌, length, map, refl, sym, ap, ◌∙◌, append_assoc, arith}
use Rattle.std.proofs.lemmas.List.{map-append, length-map}
use Rattle.sa_ast.specs.declared.class.Class.{Class}
use Rattle.sa_ast.specs.declared.contract.Contract.{Contract}
use Rattle.sa_parser.specs.declared.file.ParsedFiles.{ParsedFiles}
use Rattle.sa_parser.specs.Classes.{Written, class_of, contracts_of, contracts_from, parsed_of}

pub from_nothing : (first : ℕ) → first ≡ first + 0
from_nothing first = omega arith

one_behind : (first n : ℕ) → first + 1 + n ≡ first + suc n
one_behind first n = omega arith

contracts_more : (first : ℕ) (all more : List Written)
    → contracts_from first (all ++ more) ≡ contracts_from first all ++ contracts_from (first + length all) more
contracts_more first [] more = ap (λ place. contracts_from place more) (from_nothing first)
contracts_more first (w ∷ all) more =
    ap (λ rest. contracts_of first w ++ rest) (contracts_more (first + 1) all more)
    ∙ sym (append_assoc (contracts_of first w) (contracts_from (first + 1) all) (contracts_from (first + 1 + length all) more))
    ∙ ap (λ place. (contracts_of first w ++ contracts_from (first + 1) all) ++ contracts_from place more) (one_behind first (length all))

pub same_parsed : (parsed : ParsedFiles) (classes : List Class) (contracts : List Contract) → parsed.classes ≡ classes
    → parsed.contracts ≡ contracts → parsed ≡ record { classes = classes; contracts = contracts }
same_parsed parsed classes contracts a b = rw (← a, ← b) refl

-- what is made of some classes, and after it that of more, which begin at this index
pub appended : (first place : ℕ) (all more : List Written) (before after : ParsedFiles) (classes : List Class) (contracts : List Contract)
    → before ≡ parsed_of first all → place ≡ first + length before.classes
    → classes ≡ map class_of more → contracts ≡ contracts_from place more
    → after.classes ≡ before.classes ++ classes → after.contracts ≡ before.contracts ++ contracts
    → after ≡ parsed_of first (all ++ more)
appended first place all more before after classes contracts was at made made_contracts all_classes all_contracts =
    let there : place ≡ first + length all =
    at ∙ ap (λ (parsed : ParsedFiles). first + length parsed.classes) was ∙ ap (λ n. first + n) (length-map all class_of) in
    same_parsed after (map class_of (all ++ more)) (contracts_from first (all ++ more))
    (all_classes ∙ ap (λ (parsed : ParsedFiles). parsed.classes ++ classes) was
    ∙ ap (λ rest. map class_of all ++ rest) made ∙ sym (map-append class_of all more))
    (all_contracts ∙ ap (λ (parsed : ParsedFiles). parsed.contracts ++ contracts) was
    ∙ ap (λ rest. contracts_from first all ++ rest) made_contracts
    ∙ ap (λ n. contracts_from first all ++ contracts_from n more) there ∙ sym (contracts_more first all more))
