mod TimeLaws
