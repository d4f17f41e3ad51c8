use Rattle.std.proofs.Common.{sym, ap, ◌∙◌, refl, arith}
use Rattle.view_check.specs.Lines.{lines_of}
use Rattle.view_check.specs.Laws.{IsTold}
use Rattle.view_check.proofs.LineBytes.{line_before}
use Rattle.view_check.proofs.MessageTexts.{message_text, line_of_text, message_is_inner, is_no_fault}
use Rattle.view_check.proofs.text_lines.TextLines.take_written.Goals as goal

pub returns : goal.returns
returns c =
    let names = c.args.names.now in
    let key = c.args.key in
    let word = c.args.word in
    let rest = c.in-Some.rest.now in
    let told : IsTold names (key, word) = record {
      session = omega arith;
      slot = omega arith;
      share = omega arith;
      sender = c.requires.sender;
      receiver = c.requires.receiver;
      word = omega arith;
    } in
    record {
      taken = λ e. record {
        line = message_text names key word;
        first =
            sym c.self.view_is
            ∙ ap lines_of (c.in-Some.ensures ∙ line_of_text names key word rest)
            ∙ line_before (message_text names key word) rest (message_is_inner names c.recall.ensures.names key word told);
        right = λ n. is_no_fault names key word c.recall.ensures.names told (message_text names key word) n refl;
      };
      left = λ e. absurd (cc);
    }
