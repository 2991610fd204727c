-- `fire_card::lines::push_chars` meets its contract: after i rounds the first i lines have been added.
use Rattle.std.proofs.Common.{◌≡◌, ◌+◌, ◌*◌, ◌≤◌, ◌++◌, length, take}
use Rattle.std.specs.List.{flat_map}
use Rattle.fire_card.specs.Card.{char_line}
use Rattle.fire_card.proofs.lines.push_chars.Given as goal

abbrev pub invariant-loop-minute : goal.invariant-loop-minute
invariant-loop-minute l = record {
  added : l.text ≡ l.initial.text ++ flat_map (char_line l.fire.panel) (take l.minute-index l.minute-items);
  most : length l.text ≤ length l.initial.text + 38 * l.minute-index;
}
