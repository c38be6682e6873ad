-- The innermost counter is the last of the vector, and the first of the list that the levels are defined by.
use Rattle.std.proofs.Common.{◌≡◌, ℕ, ◌+◌, ◌-◌, ◌<◌, ◌≤◌, List, [], ◌∷◌, length, take, get_or, reverse, sym, ap, ◌∙◌, arith}
use Rattle.std.proofs.Math.ListN.{set}
use Rattle.std.proofs.Math.Seq.{take-length}
use Rattle.std.proofs.lemmas.List.{take_more, take_more_set, length-set, reverse-append}
use Rattle.std.proofs.lemmas.List.Sums.{sum_by-cons}
use Rattle.sa_parser_expr.specs.declared.levels.Counter.{Counter}
use Rattle.sa_parser_expr.specs.Level.{added, set_to_one, level_of}

module _ (xs : List Counter) (i : ℕ) (last : i + 1 ≡ length xs) where
  pub reverse-last : (d : Counter) → reverse xs ≡ get_or xs i d ∷ reverse (take i xs)
  reverse-last d =
      let lt : i < length xs = omega arith in
      let all : take (i + 1) xs ≡ xs = ap (λ n. take n xs) last ∙ take-length xs in
      ap reverse (sym all ∙ take_more xs i d lt) ∙ reverse-append (take i xs) (get_or xs i d ∷ [])

  pub reverse-set_last : (c : Counter) → reverse (set xs i c) ≡ c ∷ reverse (take i xs)
  reverse-set_last c =
      let lt : i < length xs = omega arith in
      let all : take (i + 1) (set xs i c) ≡ set xs i c = ap (λ n. take n (set xs i c)) (last ∙ sym (length-set xs i c)) ∙ take-length (set xs i c) in
      ap reverse (sym all ∙ take_more_set xs i c lt) ∙ reverse-append (take i xs) (c ∷ [])

  -- the innermost counter and those around it
  pub reverse-top : (top : Counter) → top ≡ get_or xs i top → reverse xs ≡ top ∷ reverse (take i xs)
  reverse-top top is = reverse-last top ∙ ap (λ (c : Counter). c ∷ reverse (take i xs)) (sym is)

  pub reverse-added : (top : Counter) → top ≡ get_or xs i top → reverse (set xs i (record { level = top.level + 1; opener = top.opener })) ≡ added (reverse xs)
  reverse-added top is = reverse-set_last (record { level = top.level + 1; opener = top.opener }) ∙ sym (ap added (reverse-top top is))

  pub reverse-set_to_one : (top : Counter) → top ≡ get_or xs i top → reverse (set xs i (record { level = 1; opener = top.opener })) ≡ set_to_one (reverse xs)
  reverse-set_to_one top is = reverse-set_last (record { level = 1; opener = top.opener }) ∙ sym (ap set_to_one (reverse-top top is))

  -- the sum of the counters after the innermost one was set to c
  level_of-set_last : (top c : Counter) → top ≡ get_or xs i top → level_of (reverse (set xs i c)) + top.level ≡ level_of (reverse xs) + c.level
  level_of-set_last top c is =
      let before : level_of (reverse xs) ≡ top.level + level_of (reverse (take i xs)) = ap level_of (reverse-top top is) ∙ sum_by-cons (λ (c : Counter). c.level) top (reverse (take i xs)) in
      let after : level_of (reverse (set xs i c)) ≡ c.level + level_of (reverse (take i xs)) = ap level_of (reverse-set_last c) ∙ sum_by-cons (λ (d : Counter). d.level) c (reverse (take i xs)) in
      omega (arith, before, after)

  pub level_of-added : (level : ℕ) (top : Counter) → top ≡ get_or xs i top → level ≡ level_of (reverse xs) → level + 1 ≡ level_of (reverse (set xs i (record { level = top.level + 1; opener = top.opener })))
  level_of-added level top is sum =
      let kept : level_of (reverse (set xs i (record { level = top.level + 1; opener = top.opener }))) + top.level ≡ level_of (reverse xs) + (top.level + 1) = level_of-set_last top (record { level = top.level + 1; opener = top.opener }) is in
      omega (arith, kept, sum)

  -- the innermost counter is no larger than the sum
  pub top-le : (level : ℕ) (top : Counter) → top ≡ get_or xs i top → level ≡ level_of (reverse xs) → top.level ≤ level
  top-le level top is sum =
      let before : level_of (reverse xs) ≡ top.level + level_of (reverse (take i xs)) = ap level_of (reverse-top top is) ∙ sum_by-cons (λ (c : Counter). c.level) top (reverse (take i xs)) in
      omega (arith, before, sum)

  pub level_of-set_to_one : (level : ℕ) (top : Counter) → top ≡ get_or xs i top → level ≡ level_of (reverse xs) → level - top.level + 1 ≡ level_of (reverse (set xs i (record { level = 1; opener = top.opener })))
  level_of-set_to_one level top is sum =
      let kept : level_of (reverse (set xs i (record { level = 1; opener = top.opener }))) + top.level ≡ level_of (reverse xs) + 1 = level_of-set_last top (record { level = 1; opener = top.opener }) is in
      let le : top.level ≤ level = top-le level top is sum in
      omega (arith, kept, sum, le)
