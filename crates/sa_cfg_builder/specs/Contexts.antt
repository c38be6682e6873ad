-- The context of a statement, as the typing rules see it.
use Rattle.std.specs.Prelude.{option_map}
use Rattle.sa_cfg_builder.specs.declared.context.LoweringContext.{LoweringContext}
use Rattle.sa_typing.specs.declared.context.TypingContext.{TypingContext}

abbrev pub context_of : LoweringContext → TypingContext
context_of i = record {
  owner = option_map (λ l. l.number) i.innermost;
  guarded = i.guarded;
  protected = i.protected;
  branch = option_map (λ e. e.ty) i.exception;
}
