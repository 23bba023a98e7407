mod LineLaws
mod RunLaws
mod TableLaws
mod PrintLaws
