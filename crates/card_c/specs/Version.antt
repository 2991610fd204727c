-- Which text of the papers the library follows: document 01 with the requests of document 02 from the first to this one.
use Rattle.std.specs.Prelude.{ℕ}

abbrev pub last_request : ℕ
last_request = 10
