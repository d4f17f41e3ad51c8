use Rattle.gate_lines.proofs.Places.{token_passes}
use Rattle.gate_lines.proofs.cursor.next_place.Goals as goal

pub returns : goal.returns
returns c =
    token_passes c.args.start c.token_end.result c.blanks_end.result c.args.bytes.now c.requires.stands c.requires.token c.token_end.ensures.within.0 c.token_end.ensures.within.1 c.token_end.ensures.whole c.token_end.ensures.stops
    c.blanks_end.ensures.same c.blanks_end.ensures.before c.blanks_end.ensures.stands
