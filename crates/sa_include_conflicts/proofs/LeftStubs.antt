-- The first stub that stays.
use Rattle.std.proofs.Common.{◌≡◌, ℕ, ◌+◌, ◌<◌, ◌≤◌, Bool, true, false, ◌&&◌, List, Some, length, slice_get, refl, sym, ap, ◌∙◌, ◌⊎◌, inl, inr, arith}
use Rattle.std.proofs.lemmas.Bool.{false≢true, true≢false}
use Rattle.std.proofs.lemmas.Option.{slice_get_within}
use Rattle.sa_ast.specs.declared.class.Feature.{Feature}
use Rattle.sa_ast.specs.declared.class.ClassKind.{ClassKind}
use Rattle.sa_ast.specs.declared.pos.Pos.{Pos}
use Rattle.sa_include_conflicts.specs.Sharing.{is_set}
use Rattle.sa_include_conflicts.specs.Stub.{IsFirstStub, IsStubLeft, NoStubBefore, NoStubLeft, is_partial, is_stub_part}

and_parts : (a b : Bool) → (a && b) ≡ true → (a ≡ true) × (b ≡ true)
and_parts true b h = (refl, h)
and_parts false b h = absurd (false≢true h)

module _ (features : List Feature) (stays : List Bool) where
  pub none_before : NoStubBefore features stays 0
  none_before = record { none = λ place f lt h. absurd (omega (arith, lt)) }

  near : (n place : ℕ) → n < place + 1 → (n < place) ⊎ (n ≡ place)
  near n place h = grind (arith, h)

  pub none_here : (place : ℕ) (f : Feature) (set left : Bool) → NoStubBefore features stays place → slice_get features place ≡ Some f → set ≡ is_set stays place → left ≡ (is_stub_part f.part && set) → left ≡ false → NoStubBefore features stays (place + 1)
  none_here place f set left so_far at is_stays is unset = record { none = λ n g lt h. by n g h (near n place lt) }
    where
      by : (n : ℕ) (g : Feature) → IsStubLeft features stays n g → (n < place) ⊎ (n ≡ place) → ⊥
      by n g h (inl lt) = so_far.none n g lt h
      by n g h (inr e) = false≢true (sym unset ∙ is ∙ ap (λ b. b && set) (ap (λ (x : Feature). is_stub_part x.part) same ∙ h.stub) ∙ is_stays ∙ ap (is_set stays) (sym e) ∙ h.kept)
        where
          same : f ≡ g
          same = one (sym at ∙ ap (slice_get features) (sym e) ∙ h.at)
            where
              one : Some f ≡ Some g → f ≡ g
              one q = cc

  pub first_here : (kind : ClassKind) (place : ℕ) (f : Feature) (set left partial : Bool) (pos : Pos) → NoStubBefore features stays place → slice_get features place ≡ Some f → set ≡ is_set stays place → left ≡ (is_stub_part f.part && set) → left ≡ true → partial ≡ is_partial kind → partial ≡ false → pos ≡ f.name.pos → IsFirstStub kind features stays pos
  first_here kind place f set left partial pos so_far at is_stays is held kind_is whole named =
      let parts = and_parts (is_stub_part f.part) set (sym is ∙ held) in
      record {
        whole = sym kind_is ∙ whole;
        place = place;
        feature = f;
        left = record { at = at; stub = parts.0; kept = sym is_stays ∙ parts.1 };
        first = so_far;
        named = named;
      }

  pub none_in_partial : (kind : ClassKind) (partial : Bool) → partial ≡ is_partial kind → partial ≡ true → NoStubLeft kind features stays
  none_in_partial kind partial is held = record { none = λ h. absurd (true≢false (sym held ∙ is ∙ h)) }

  pub none_at_all : (kind : ClassKind) (place : ℕ) → NoStubBefore features stays place → length features ≤ place → NoStubLeft kind features stays
  none_at_all kind place so_far le = record { none = λ h n f left. so_far.none n f (omega (arith, slice_get_within features n f left.at, le)) left }

pub ruleset stubs = (none_before, none_here, first_here, none_in_partial, none_at_all)
