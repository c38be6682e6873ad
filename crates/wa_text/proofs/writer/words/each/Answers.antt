use Rattle.std.proofs.Common.{◌≡◌, ◌+◌, [], ◌∷◌, drop, refl, sym, ap, ◌∙◌, arith}
use Rattle.std.proofs.lemmas.List.{drop_more, at_drop_all}
use Rattle.wa_text.proofs.writer.words.each.Goals as goal

pub loop-value-preserved : goal.loop-value-preserved
loop-value-preserved g c =
    λ last rest.
    let xs = c.args.values.now in
    let i = c.loop-value.value-index in
    let x = c.value-item.result in
    let here : drop i xs ≡ x ∷ drop (i + 1) xs = drop_more xs i x (omega arith) ∙ ap (λ y. y ∷ drop (i + 1) xs) (sym c.value-item.is) in
    c.loop-value.invariant last (rw here (c.write.new.arg2.items, record { old = _; shown = _; new = _; called = c.in_ok-write.ensures; is_before = refl; is_v = refl; is_after = refl }, rest))

pub returns : goal.returns
returns g c =
    let none : drop c.loop-value.value-index c.args.values.now ≡ [] = at_drop_all (λ ys. ys) c.args.values.now c.loop-value.value-index (omega arith) in
    c.loop-value.invariant c.loop-value.out.items (rw none refl)
