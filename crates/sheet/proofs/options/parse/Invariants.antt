use Rattle.std.proofs.Common.{length}
use Rattle.sheet.proofs.options.parse.Given as goal

abbrev pub decreases-loop-word : goal.decreases-loop-word
decreases-loop-word l = length l.words
