-- Case by case of what the word is read as.
use Rattle.std.proofs.Common.{◌∙◌, sym, ap, Err}
use Rattle.decimal.specs.Decimal.{read_decimal}
use Rattle.decimal.proofs.LawsWords.{word_put, word_full, word_none, word_large}
use Rattle.decimal.proofs.words.put_word.Goals as goal

pub returns-in-Ok-clause-by_index : goal.returns-in-Ok-clause-by_index
returns-in-Ok-clause-by_index c =
    λ more. word_put (read_decimal c.args.word.now) c.args.start c.args.end c.args.list.now c.args.count more c.in-Ok.n
    (sym c.read_decimal.ensures ∙ c.in-Ok.is) c.if-count-list.true

pub returns-in-Ok-2-clause-by_index : goal.returns-in-Ok-2-clause-by_index
returns-in-Ok-2-clause-by_index c =
    λ more. word_full (read_decimal c.args.word.now) c.args.start c.args.end c.args.list.now c.args.count more c.in-Ok-2.field-0
    (sym c.read_decimal.ensures ∙ c.in-Ok-2.is) c.if-count-list.false

pub returns-in-Err-NotANumber-clause-by_index : goal.returns-in-Err-NotANumber-clause-by_index
returns-in-Err-NotANumber-clause-by_index c =
    λ more. word_none (read_decimal c.args.word.now) c.args.start c.args.end c.args.list.now c.args.count more
    (sym c.read_decimal.ensures ∙ c.in-Err-NotANumber.is ∙ ap Err c.in-Err-NotANumber.field-0-is)

pub returns-in-Err-TooLarge-clause-by_index : goal.returns-in-Err-TooLarge-clause-by_index
returns-in-Err-TooLarge-clause-by_index c =
    λ more. word_large (read_decimal c.args.word.now) c.args.start c.args.end c.args.list.now c.args.count more
    (sym c.read_decimal.ensures ∙ c.in-Err-TooLarge.is ∙ ap Err c.in-Err-TooLarge.field-0-is)
