use Rattle.std.proofs.Common.{arith}
use Rattle.console.proofs.WordsOut.{word_inside}
use Rattle.console.proofs.words.Words.word.Goals as goal

pub offset_bounds-self-start : goal.offset_bounds-self-start
offset_bounds-self-start c = omega (arith, word_inside c.args.i c.args.self.now.count c.args.self.now.n c.requires c.args.self.now.within)

pub slice_bounds-result-end : goal.slice_bounds-result-end
slice_bounds-result-end c = omega (arith, word_inside c.args.i c.args.self.now.count c.args.self.now.n c.requires c.args.self.now.within)
