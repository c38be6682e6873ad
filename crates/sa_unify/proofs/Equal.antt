-- Two lists of nodes are equal, from what was compared.
use Rattle.std.proofs.Common.{◌≡◌, ℕ, ◌≤◌, List, length, take, sym, ◌∙◌, arith}
use Rattle.std.proofs.lemmas.List.{take_all}
use Rattle.sa_unify.specs.declared.pattern.Node.{Node}

-- two lists that don't differ up to the ends of both
pub equal-lists : (one other : List Node) (at n m : ℕ) → take at one ≡ take at other → n ≡ length one → m ≡ length other → at ≡ n → at ≡ m → one ≡ other
equal-lists one other at n m same e f g h =
    let all : length one ≤ at = omega (arith, e, g) in
    let whole : length other ≤ at = omega (arith, f, h) in
    sym (take_all at one all) ∙ same ∙ take_all at other whole

pub ruleset equals = (equal-lists)
