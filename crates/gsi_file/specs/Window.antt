-- What is in hand: the line that was found, and the bytes after it.
use Rattle.std.specs.Prelude.{List, ℕ, take, drop}
use Rattle.gsi_file.specs.declared.window.Window.{Window}

-- The line that was found.
abbrev pub line_in_window : Window → List ℕ
line_in_window w = take w.line_length w.buffer

-- The bytes that no line has used up.
abbrev pub unused : Window → List ℕ
unused w = drop w.used w.buffer
