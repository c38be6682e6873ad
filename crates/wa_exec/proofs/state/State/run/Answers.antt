use Rattle.std.proofs.Common.{◌≡◌, length, reverse, ap, ◌∙◌, arith, rules}
use Rattle.std.specs.Vec.{with_items}
use Rattle.std.proofs.lemmas.List.{with_items_is}
use Rattle.wa_stack.specs.Frames.{top}
use Rattle.wa_flatten.specs.Codes.{layout_of}
use Rattle.wa_flatten.specs.Layouts.{Layout}
use Rattle.wa_exec.specs.Linking.{flat_of}
use Rattle.wa_exec.proofs.Frames.{with_words-all}
use Rattle.wa_exec.proofs.Running.{begins-given, left-given}
use Rattle.wa_exec.proofs.Turns.{begins}
use Rattle.wa_exec.proofs.state.State.run.Goals as goal

pub returns-clause-run : goal.returns-clause-run
returns-clause-run c = λ m frame frames s occurs safe are.
    let row = layout_of c.args.code.now in
    let given : Layout = record { ops = c.as_slice.result.now; targets = c.as_slice-2.result.now } in
    let callers = reverse c.args.self.now.calls.callers.items in
    let rows : given ≡ row = cc (c.as_slice.ensures.value, c.as_slice-2.ensures.value) in
    let frame_is : c.top_mut.result.now ≡ frame = c.top_mut.ensures.value ∙ ap top are in
    let started = begins m row (flat_of c.args.self.now) s frame frames occurs are safe in
    let begun = begins-given m row given callers frames s.waiting s.state rows c.args.self.now.calls.at c.args.self.now.calls.height frame c.top_mut.result.now c.args.self.now.globals.items c.as_mut_slice.result.now c.args.self.now.bytes.items c.as_mut_slice-2.result.now frame_is c.as_mut_slice.ensures.value c.as_mut_slice-2.ensures.value started in
    let left = c.run_activation-stretch.ensures.run m callers frames s.waiting s.state begun in
    let same : length c.run_activation-stretch.new.words ≡ length c.top_mut.result.now = search (rules, c.run_activation-stretch.auto.words) in
    let long : length c.run_activation-stretch.new.words ≡ length frame = same ∙ ap length frame_is in
    let globals_long : length c.run_activation-stretch.new.globals ≡ c.args.self.now.globals.len = omega (arith, c.run_activation-stretch.auto.globals, c.as_mut_slice.ensures.len) in
    let bytes_long : length c.run_activation-stretch.new.bytes ≡ c.args.self.now.bytes.len = omega (arith, c.run_activation-stretch.auto.bytes, c.as_mut_slice-2.ensures.len) in
    record {
      words = c.run_activation-stretch.new.words;
      frames_are = with_words-all c.args.self.now.calls.region frame c.run_activation-stretch.new.words frames are long;
      long = long;
      left = left-given m row given callers frames s.waiting s.state rows c.args.before c.args.fuel c.run_activation-stretch.result.at c.run_activation-stretch.result.height c.run_activation-stretch.result.steps c.run_activation-stretch.new.words
          (with_items c.args.self.now.globals c.run_activation-stretch.new.globals).items c.run_activation-stretch.new.globals
          (with_items c.args.self.now.bytes c.run_activation-stretch.new.bytes).items c.run_activation-stretch.new.bytes c.run_activation-stretch.result.pause
          (with_items_is c.args.self.now.globals c.run_activation-stretch.new.globals globals_long)
          (with_items_is c.args.self.now.bytes c.run_activation-stretch.new.bytes bytes_long) left;
    }
