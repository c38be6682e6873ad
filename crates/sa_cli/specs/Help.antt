-- Which arguments ask for help, for the version, and for the reason why they aren't a command.
use Rattle.std.specs.Prelude.{ℕ, ◌&&◌, ◌||◌, Bool, false, List, [], ◌∷◌, Option, None, Some, codes, bytes_eq}
use Rattle.std.specs.Prelude.{find, if◌then◌else◌, is_some}
use Rattle.std.specs.Option.{option_map_or}
use Rattle.sa_cli.specs.declared.command.Topic.{Topic}
use Rattle.sa_cli.specs.declared.command.Topic.TheVariants as topic

-- an argument that asks for help, in any position
abbrev pub is_help : List ℕ → Bool
is_help word = bytes_eq word (codes "--help") || bytes_eq word (codes "-h")

-- an argument after which all arguments are names
abbrev pub ends_options : List ℕ → Bool
ends_options word = bytes_eq word (codes "--")

-- help is asked for by an argument before the first `--`
abbrev pub asks_help : List (List ℕ) → Bool
asks_help words = option_map_or is_help (find (λ word. is_help word || ends_options word) words) false

-- the command with this name, if it is one that prints a text
abbrev pub printing_topic : List ℕ → Option Topic
printing_topic name =
    if bytes_eq name (codes "help") then Some topic.Help
    else (if bytes_eq name (codes "version") then Some topic.Version
    else (if bytes_eq name (codes "explain") then Some topic.Explain
    else (if bytes_eq name (codes "lib") then Some topic.Library else None)))

-- the command with this name
abbrev pub topic_named : List ℕ → Option Topic
topic_named name =
    if bytes_eq name (codes "run") then Some topic.Run
    else (if bytes_eq name (codes "build") then Some topic.Build
    else (if bytes_eq name (codes "check") then Some topic.Check
    else (if bytes_eq name (codes "exec") then Some topic.Exec
    else (if bytes_eq name (codes "gen") then Some topic.Gen
    else (if bytes_eq name (codes "selftest") then Some topic.Selftest
    else (if bytes_eq name (codes "listing") then Some topic.Listing
    else (if bytes_eq name (codes "assemble") then Some topic.Assemble
    else (if bytes_eq name (codes "dump") then Some topic.Dump else printing_topic name))))))))

-- the topic of help that an option asks for: the command that the arguments begin with, or all commands where they begin with this option
abbrev pub asked_topic : List (List ℕ) → Option Topic
asked_topic [] = None
asked_topic (word ∷ rest) = if is_help word then Some topic.All else topic_named word

-- the version is asked for by a single argument
abbrev pub asks_version : List (List ℕ) → Bool
asks_version (word ∷ []) = bytes_eq word (codes "--version") || bytes_eq word (codes "-V")
asks_version _ = false

-- the arguments begin with the name of a command
abbrev pub begins_with_command : List (List ℕ) → Bool
begins_with_command [] = false
begins_with_command (word ∷ rest) = is_some (topic_named word)

-- an argument that asks for an explanation, in any position
abbrev pub is_explain : List ℕ → Bool
is_explain word = bytes_eq word (codes "--explain")

-- an explanation is asked for by an argument before the first `--`
abbrev pub asks_explanation : List (List ℕ) → Bool
asks_explanation words = option_map_or is_explain (find (λ word. is_explain word || ends_options word) words) false

-- arguments that aren't a command ask for the reason where they begin with the name of one and ask for an explanation
abbrev pub asks_reason : List (List ℕ) → Bool
asks_reason words = begins_with_command words && asks_explanation words
