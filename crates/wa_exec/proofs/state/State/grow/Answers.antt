use Rattle.std.proofs.Common.{◌≡◌, ℕ, ◌+◌, ◌-◌, ◌*◌, ◌/◌, ◌%◌, ◌<◌, ◌≤◌, List, ◌∷◌, ◌++◌, length, replicate, min, take, refl, ap, subst, ◌∙◌, arith, rules}
use Rattle.std.specs.Prelude.{IsOk}
use Rattle.std.proofs.lemmas.List.{take_all}
use Rattle.wa_exec.specs.Activations.{OnTop}
use Rattle.wa_exec.proofs.Frames.{on_top-given, same-given}
use Rattle.wa_exec.proofs.state.State.grow.Goals as goal

pub returns-then-len-saturating_mul-clause-grows :
    goal.returns-then-len-saturating_mul-clause-grows
returns-then-len-saturating_mul-clause-grows c = λ pages word stack below on whole most yes.
    let taken = c.take.ensures.takes word stack below on in
    let more_is : c.low-more.result ≡ word % 4294967296 = c.low-more.ensures ∙ ap (λ (n : ℕ). n % 4294967296) taken.0 in
    let sum_is : c.saturating_add-len.result ≡ min (length c.args.self.now.bytes.items + c.low-more.result * 65536) 18446744073709551615 = search rules in
    let most_is : c.saturating_mul.result ≡ min (c.args.self.now.most_pages * 65536) 18446744073709551615 = search rules in
    let past : c.args.self.now.most_pages < pages + word % 4294967296 = omega arith in
    record {
      rest = refl;
      same = same-given c.args.self.now.calls c.take.new.self c.give.new.self c.take.ensures.rest c.give.ensures.callers c.give.ensures.at c.give.ensures.long;
      grows = λ fits. absurd (omega arith);
      stays = λ over.
          (let answer : c.from.result ≡ 4294967295 = search rules in
          let given = on_top-given c.args.self.now.calls c.take.new.self c.give.new.self c.take.ensures.rest word c.from.result stack below on taken.1 taken.2 c.give.ensures.gives in
          (refl {A = List ℕ}, subst (λ (w : ℕ). OnTop c.give.new.self.region c.give.new.self.height (w ∷ stack) below) answer given));
    }

-- the bytes, and so many zeros after them
resized : (bytes : List ℕ) (len more : ℕ) → len ≡ length bytes + more → take len bytes ++ replicate (len - length bytes) 0 ≡ bytes ++ replicate more 0
resized bytes len more len_is =
    let count : len - length bytes ≡ more = omega arith in
    ap (λ (w : List ℕ). w ++ replicate (len - length bytes) 0) (take_all len bytes (omega arith)) ∙ ap (λ (n : ℕ). bytes ++ replicate n 0) count

pub returns-clause-whole : goal.returns-clause-whole
returns-clause-whole c = λ pages whole most yes.
    let sum_is : c.saturating_add-len.result ≡ min (length c.args.self.now.bytes.items + c.low-more.result * 65536) 18446744073709551615 = search rules in
    let most_is : c.saturating_mul.result ≡ min (c.args.self.now.most_pages * 65536) 18446744073709551615 = search rules in
    let ok : IsOk c.resize.result = search rules in
    let size : length c.resize.new.self.items ≡ c.saturating_add-len.result = search rules in
    (pages + c.low-more.result, omega arith)

pub returns-clause-grows : goal.returns-clause-grows
returns-clause-grows c = λ pages word stack below on whole most yes.
    let taken = c.take.ensures.takes word stack below on in
    let more_is : c.low-more.result ≡ word % 4294967296 = c.low-more.ensures ∙ ap (λ (n : ℕ). n % 4294967296) taken.0 in
    let sum_is : c.saturating_add-len.result ≡ min (length c.args.self.now.bytes.items + c.low-more.result * 65536) 18446744073709551615 = search rules in
    let most_is : c.saturating_mul.result ≡ min (c.args.self.now.most_pages * 65536) 18446744073709551615 = search rules in
    let size : c.saturating_add-len.result ≡ length c.args.self.now.bytes.items + c.low-more.result * 65536 = omega arith in
    let fits : pages + word % 4294967296 ≤ c.args.self.now.most_pages = omega arith in
    record {
      rest = refl;
      same = same-given c.args.self.now.calls c.take.new.self c.give-2.new.self c.take.ensures.rest c.give-2.ensures.callers c.give-2.ensures.at c.give-2.ensures.long;
      grows = λ enough.
          (let items : c.resize.new.self.items ≡ take c.saturating_add-len.result c.args.self.now.bytes.items ++ replicate {A = ℕ} (c.saturating_add-len.result - length c.args.self.now.bytes.items) 0 = search rules in
          let old_is : c.pages-old.result ≡ length c.args.self.now.bytes.items / 65536 = search rules in
          let answer : c.pages-old.result ≡ pages = omega arith in
          let given = on_top-given c.args.self.now.calls c.take.new.self c.give-2.new.self c.take.ensures.rest word c.pages-old.result stack below on taken.1 taken.2 c.give-2.ensures.gives in
          (items ∙ resized c.args.self.now.bytes.items c.saturating_add-len.result (word % 4294967296 * 65536) (omega arith), subst (λ (w : ℕ). OnTop c.give-2.new.self.region c.give-2.new.self.height (w ∷ stack) below) answer given));
      stays = λ over. absurd (omega arith);
    }
