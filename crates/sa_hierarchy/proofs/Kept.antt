-- The edges of the tables are the declared ones, if the verifier has accepted them.
use Rattle.std.proofs.Common.{◌≡◌, ℕ, ◌+◌, ◌<◌, ◌≤◌, List, Some, length, get_or, slice_get, sym, ap, subst, ◌∙◌, arith}
use Rattle.sa_unify.specs.declared.declared.Edge.{Edge}
use Rattle.sa_unify.specs.declared.pattern.Node.{Node}
use Rattle.sa_unify.specs.declared.written.WrittenEdge.{WrittenEdge}
use Rattle.sa_unify.specs.DeclaredEdges.{edge_of}
use Rattle.sa_hierarchy.specs.Kept.{IsWrittenAt, AreWritten}
use Rattle.sa_hierarchy.specs.Hierarchies.{Tables}
use Rattle.sa_unify.specs.Terms.{SameInstances}
use Rattle.sa_hierarchy.proofs.Trials.{all-more, all-of}

-- the written edges that were verified so far
pub record WrittenSoFar (w : Tables) (written : List WrittenEdge) (n : ℕ) : Type 0 where
  pub each : (number : ℕ) (x : WrittenEdge) → number < n → slice_get written number ≡ Some x → IsWrittenAt w number (edge_of x)

pub written-none : (w : Tables) (written : List WrittenEdge) → WrittenSoFar w written 0
written-none w written = record { each = λ number x h. absurd (omega (arith, h)) }

pub written-more : (w : Tables) (written : List WrittenEdge) (i n : ℕ) (x : WrittenEdge) → WrittenSoFar w written i → i < length written → x ≡ get_or written i x → n ≡ i → IsWrittenAt w n (edge_of x) → WrittenSoFar w written (i + 1)
written-more w written i n x all less is e here = record { each = all-more (λ k (a : WrittenEdge). IsWrittenAt w k (edge_of a)) written i x all.each less is (subst (λ k. IsWrittenAt w k (edge_of x)) e here) }

pub written-all : (w : Tables) (written : List WrittenEdge) (edges : List Edge) (i n m : ℕ) → WrittenSoFar w written i → length written ≤ i → edges ≡ w.edges → n ≡ length edges → m ≡ length written → n ≡ m → AreWritten w written
written-all w written edges i n m all end e f g h = record {
  equal = ap length (sym e) ∙ sym f ∙ h ∙ g;
  each = all-of (λ k (a : WrittenEdge). IsWrittenAt w k (edge_of a)) written i all.each end;
}

pub written-at : (w : Tables) (edges : List Edge) (number : ℕ) (edge : Edge) (own : WrittenEdge) (nodes v l b : List Node) → edges ≡ w.edges → slice_get edges number ≡ Some edge → edge.lower ≡ own.lower → edge.upper ≡ own.upper → SameInstances l v → l ≡ own.nodes.items → nodes ≡ w.nodes edge.pair → nodes ≡ b → b ≡ v → IsWrittenAt w number (edge_of own)
written-at w edges number edge own nodes v l b e is lower upper same f g h k = record {
  edge = edge;
  declared = ap (λ x. slice_get x number) (sym e) ∙ is;
  is = record {
    lower = lower;
    upper = upper;
    nodes = subst (λ x. SameInstances x (w.nodes edge.pair)) f (subst (SameInstances l) (sym k ∙ sym h ∙ g) same);
  };
}

pub ruleset keeps = (written-none, written-more, written-all, written-at)
