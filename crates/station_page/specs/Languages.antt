-- The language of a text, as a number states it (profile).
use Rattle.std.specs.Prelude.{◌≤◌, ◌==◌, ℕ, if◌then◌else◌}
use Rattle.report_phrases.specs.declared.language.Language.{Language}
use Rattle.report_phrases.specs.declared.language.Language.TheVariants.{English, French, German}
use Rattle.station_page.specs.declared.language.TheConstants.{LARGEST_LANGUAGE}

-- the language of a number: of 0 English, of 1 German, of 2 French
abbrev pub stated_language : ℕ → Language
stated_language number =
    if number == 0 then English else (if number == 1 then German else French)

-- The number is one of a language.
abbrev pub IsLanguage : ℕ → Type 0
IsLanguage number = number ≤ LARGEST_LANGUAGE
