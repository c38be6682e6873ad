-- Which text belongs to which topic.
use Rattle.std.specs.Prelude.{ℕ, List}
use Rattle.sa_cli.specs.declared.texts.TheConstants as text
use Rattle.sa_cli.specs.declared.command.Topic.{Topic}
use Rattle.sa_cli.specs.declared.command.Topic.TheVariants as topic

-- the help on a topic
abbrev pub help_text : Topic → List ℕ
help_text topic.All = text.ALL.now
help_text topic.Run = text.RUN.now
help_text topic.Build = text.BUILD.now
help_text topic.Check = text.CHECK.now
help_text topic.Exec = text.EXEC.now
help_text topic.Gen = text.GEN.now
help_text topic.Selftest = text.SELFTEST.now
help_text topic.Listing = text.LISTING.now
help_text topic.Assemble = text.ASSEMBLE.now
help_text topic.Dump = text.DUMP.now
help_text topic.Help = text.HELP.now
help_text topic.Version = text.VERSION_HELP.now
help_text topic.Explain = text.EXPLAIN.now
help_text topic.Library = text.LIBRARY.now

-- the version
abbrev pub version_text : List ℕ
version_text = text.VERSION.now
