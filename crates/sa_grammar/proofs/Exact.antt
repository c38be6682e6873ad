-- What is sound and complete is exact: the longest prefix that begins an AST is taken.
use Rattle.std.proofs.Common.{◌≡◌, ℕ, suc, ◌+◌, ◌<◌, List, [], ◌∷◌, ◌++◌, length, sym, ap, subst, ◌∙◌, append_assoc, append-nil, arith, length-append}
use Rattle.std.proofs.lemmas.List.{append_cancel_right}
use Rattle.sa_parser_expr.specs.Lexemes.{Lexeme}
use Rattle.sa_parser_expr.specs.Readings.{Spelling, IsUnique, Begins, Reading, Read, Refused, IsRead, read, refused}
use Rattle.sa_parser_expr.specs.Forms.{Reader}
use Rattle.sa_grammar.proofs.Sound.{Agrees, ended, same, Sound, Answers, Took, Stopped}

abbrev tree_or : {A : Type 0} → A → Reading A → A
tree_or other (Read tree rest) = tree
tree_or other (Refused rest) = other

read_apart : {A : Type 0} {a b : A} {l : Lexeme} {ls : List Lexeme} → ◌≡◌ {A = Reading A} (Read a []) (Read b (l ∷ ls)) → ⊥
read_apart e = cc

refused_apart : {A : Type 0} {a : A} {ls ms : List Lexeme} → ◌≡◌ {A = Reading A} (Read a ls) (Refused ms) → ⊥
refused_apart e = cc

module _ {A : Type 0} (R : Spelling A) (r : ℕ → Reader A) (sound : (n : ℕ) → Sound R (r n))
    (complete : (n : ℕ) (ls : List Lexeme) (a : A) → R ls a → length ls < n → r n (ls ++ []) ≡ Read a []) where
  pub unique : IsUnique R
  unique ls one other h k =
      ap (tree_or one) (sym (complete (suc (length ls)) ls one h (omega arith)) ∙ complete (suc (length ls)) ls other k (omega arith))

  -- what is read at a level of a prefix, one more lexeme, and what completes them
  continued : (n : ℕ) (front : List Lexeme) (l : Lexeme) (b : Begins R (front ++ l ∷ [])) → length ((front ++ l ∷ []) ++ b.more) < n → r n (front ++ l ∷ b.more) ≡ Read b.tree []
  continued n front l b lt =
      ap (r n) (sym (append-nil ((front ++ l ∷ []) ++ b.more) ∙ append_assoc front (l ∷ []) b.more))
      ∙ complete n ((front ++ l ∷ []) ++ b.more) b.tree b.spelled lt

  module _ (ls : List Lexeme) where
    took_dead : (a : A) (rest front : List Lexeme) → ls ≡ front ++ rest → ((n : ℕ) → length ls < n → Took R (r n) ls a rest)
        → (l : Lexeme) (more : List Lexeme) → rest ≡ l ∷ more → Begins R (front ++ l ∷ []) → ⊥
    took_dead a rest front parts took l more next b =
        let n : ℕ = suc (length ls + length ((front ++ l ∷ []) ++ b.more)) in
        let t : Took R (r n) ls a rest = took n (omega arith) in
        let fronts : front ≡ t.front = append_cancel_right front t.front rest (sym parts ∙ t.parts) in
        let agree : Agrees rest (l ∷ b.more) = subst (λ xs. Agrees xs (l ∷ b.more)) (sym next) same in
        read_apart (sym (continued n front l b (omega arith)) ∙ ap (λ xs. r n (xs ++ l ∷ b.more)) fronts ∙ t.local (l ∷ b.more) agree)

    stopped_dead : (rest front : List Lexeme) → ls ≡ front ++ rest → ((n : ℕ) → length ls < n → Stopped R (r n) ls rest)
        → (l : Lexeme) (more : List Lexeme) → rest ≡ l ∷ more → Begins R (front ++ l ∷ []) → ⊥
    stopped_dead rest front parts stopped l more next b =
        let n : ℕ = suc (length ls + length ((front ++ l ∷ []) ++ b.more)) in
        let s : Stopped R (r n) ls rest = stopped n (omega arith) in
        let fronts : front ≡ s.front = append_cancel_right front s.front rest (sym parts ∙ s.parts) in
        let agree : Agrees rest (l ∷ b.more) = subst (λ xs. Agrees xs (l ∷ b.more)) (sym next) same in
        refused_apart (sym (continued n front l b (omega arith)) ∙ ap (λ xs. r n (xs ++ l ∷ b.more)) fronts ∙ s.local (l ∷ b.more) agree)

    -- where each level greater than the number of lexemes reads the same
    pub exact : (v : Reading A) → ((n : ℕ) → length ls < n → r n ls ≡ v) → IsRead R ls v
    exact (Read a rest) all =
        let took = λ (n : ℕ) (lt : length ls < n). subst (Answers R (r n) ls) (all n lt) ((sound n).answers ls) in
        let t : Took R (r (suc (length ls))) ls a rest = took (suc (length ls)) (omega arith) in
        read (record {
          parts = t.parts;
          live = record { more = []; tree = a; spelled = rw append-nil t.spelled };
          dead = took_dead a rest t.front t.parts took;
        }) t.spelled
    exact (Refused rest) all =
        let stopped = λ (n : ℕ) (lt : length ls < n). subst (Answers R (r n) ls) (all n lt) ((sound n).answers ls) in
        let s : Stopped R (r (suc (length ls))) ls rest = stopped (suc (length ls)) (omega arith) in
        let sum : length ls ≡ length s.front + length rest = ap length s.parts ∙ length-append s.front rest in
        refused (record { parts = s.parts; live = s.begins; dead = stopped_dead rest s.front s.parts stopped })
        (λ tree h. refused_apart (sym (complete (suc (length ls)) s.front tree h (omega arith)) ∙ s.local [] ended))
