-- The context in which an expression or a statement is typed.
use Rattle.std.specs.Prelude.{ℕ, Bool, true, false, ◌&&◌, not, ◌==◌, nat_lt, List, Option, Some, None, is_some}
use Rattle.std.specs.Option.{option_map_or}
use Rattle.sa_typed.specs.declared.feature.Site.{Site}
use Rattle.sa_typing.specs.declared.context.TypingContext.{TypingContext}
use Rattle.sa_typing.specs.declared.context.TypingEnv.{TypingEnv}
use Rattle.sa_typing.specs.Rows.{Rows, rows}

-- the environment: the feature or the initialiser to which something belongs
pub record Env : Type 0 where
  pub rows : Rows
  -- the type of `self`
  pub class : ℕ
  -- the types of the variables
  pub vars : List ℕ
  pub sites : List Site
  pub iter : Bool
  -- the type of the result
  pub gives : Option ℕ

abbrev pub env : TypingEnv → Env
env s = record { rows = rows s.view; class = s.class; vars = s.vars.now; sites = s.sites.now; iter = s.iter; gives = s.gives }

-- ---- the context: loops, protects and branches

abbrev pub outside : TypingContext
outside = record { owner = None; guarded = false; protected = false; branch = None }

abbrev pub in_loop : ℕ → TypingContext → TypingContext
in_loop number at = record { owner = Some number; guarded = false; protected = at.protected; branch = at.branch }

abbrev pub guarded : TypingContext → TypingContext
guarded at = record { owner = at.owner; guarded = true; protected = true; branch = at.branch }

abbrev pub in_branch : ℕ → TypingContext → TypingContext
in_branch ty at = record { owner = at.owner; guarded = at.guarded; protected = at.protected; branch = Some ty }

-- the innermost loop has this number, and no protect is between
abbrev pub is_in_loop : ℕ → TypingContext → Bool
is_in_loop number at = option_map_or (λ owner. owner == number && not at.guarded) at.owner false

-- the innermost loop can be exited
abbrev pub may_leave : TypingContext → Bool
may_leave at = is_some at.owner && not at.guarded

-- a loop with this number may occur here: the enclosing ones have lower numbers
abbrev pub is_inner : ℕ → TypingContext → Bool
is_inner number at = option_map_or (λ owner. nat_lt owner number) at.owner true
